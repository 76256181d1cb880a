-- The lines that the program writes to the error sink where it is asked for nothing, has no file or no image, or a run was cut off.
-- Each ends with a line feed.
use Rattle.std.specs.Prelude.{ℕ, List, [], ◌++◌, codes, decimal}
use Rattle.ob_model.specs.declared.endings.Ending as ending
use Rattle.ob_model.specs.declared.endings.Ending.TheVariants as endings
use Rattle.ob_code.specs.declared.faults.Part.{Part}
use Rattle.ob_code.specs.declared.faults.Part.TheVariants as part
use Rattle.ob_code.specs.declared.faults.BadImage.{BadImage}

-- for words that ask for nothing
abbrev pub usage_line : List ℕ
usage_line = codes "usage: oblivious run|compile|exec|check|audit|sample|migrate ARGUMENT [OPTIONS]\n"

-- for a file that can't be had, one that is too long, and a program that can't be compiled yet
abbrev pub file_fault_line : List ℕ
file_fault_line = codes "oblivious: FileFault\n"

abbrev pub file_long_line : List ℕ
file_long_line = codes "oblivious: FileLong\n"

abbrev pub not_yet_line : List ℕ
not_yet_line = codes "oblivious: NotYet\n"

-- for a run that was cut off; a run that ended, a failed write and want of memory have no line
abbrev pub ending_line : ending.Ending → List ℕ
ending_line (endings.Ended n) = []
ending_line endings.Steps = codes "oblivious: Steps\n"
ending_line endings.Divide = codes "oblivious: Divide\n"
ending_line endings.Stack = codes "oblivious: Stack\n"
ending_line endings.Descriptors = codes "oblivious: Descriptors\n"
ending_line endings.Far = codes "oblivious: Far\n"
ending_line endings.Spent = codes "oblivious: Spent\n"
ending_line endings.ReadFault = codes "oblivious: ReadFault\n"
ending_line endings.WriteFault = []
ending_line endings.NoMemory = []

-- the parts of an image
abbrev pub part_word : Part → List ℕ
part_word part.Bytes = codes "Bytes"
part_word part.Static = codes "Static"
part_word part.Pointer = codes "Pointer"
part_word part.Function = codes "Function"
part_word part.Main = codes "Main"
part_word part.Code = codes "Code"
part_word part.Names = codes "Names"

-- for bytes that are no image: the part at fault, and there the row or byte, from 0
abbrev pub bad_image_line : BadImage → List ℕ
bad_image_line fault = codes "oblivious: BadImage " ++ part_word fault.part ++ codes " " ++ decimal fault.at ++ codes "\n"
