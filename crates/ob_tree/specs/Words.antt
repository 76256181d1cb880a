-- Keywords (C99 6.4.1). What a name is stands in ob_base.
use Rattle.std.specs.Prelude.{◌≡◌, ℕ, List, ◌⊎◌, codes}
pub use Rattle.ob_base.specs.Names.{IsName}
use Rattle.ob_tree.specs.declared.tokens.Keyword.{Keyword}
use Rattle.ob_tree.specs.declared.tokens.Keyword.TheVariants as word

-- the bytes of a reserved word
abbrev pub word_text : Keyword → List ℕ
word_text word.Break = codes "break"
word_text word.Char = codes "char"
word_text word.Continue = codes "continue"
word_text word.Do = codes "do"
word_text word.Else = codes "else"
word_text word.For = codes "for"
word_text word.If = codes "if"
word_text word.Int = codes "int"
word_text word.Long = codes "long"
word_text word.Return = codes "return"
word_text word.Short = codes "short"
word_text word.Signed = codes "signed"
word_text word.Sizeof = codes "sizeof"
word_text word.Static = codes "static"
word_text word.Struct = codes "struct"
word_text word.Unsigned = codes "unsigned"
word_text word.Void = codes "void"
word_text word.While = codes "while"
word_text word.Null = codes "NULL"
word_text word.Eof = codes "EOF"
word_text word.SizeT = codes "size_t"
word_text word.Auto = codes "auto"
word_text word.Case = codes "case"
word_text word.Default = codes "default"
word_text word.Double = codes "double"
word_text word.Enum = codes "enum"
word_text word.Extern = codes "extern"
word_text word.Float = codes "float"
word_text word.Goto = codes "goto"
word_text word.Inline = codes "inline"
word_text word.Switch = codes "switch"
word_text word.Typedef = codes "typedef"
word_text word.Union = codes "union"
word_text word.Volatile = codes "volatile"
word_text word.Bool = codes "_Bool"
word_text word.Complex = codes "_Complex"
word_text word.Imaginary = codes "_Imaginary"

-- the type qualifiers and the storage class that read as spaces
abbrev pub IsQualifier : List ℕ → Type 0
IsQualifier text = (text ≡ codes "const") ⊎ ((text ≡ codes "register") ⊎ (text ≡ codes "restrict"))
