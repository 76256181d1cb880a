-- Large sources from a number: n functions that each overrun an array of four numbers by four, and a `main` that calls them in
-- turn and prints a digit after each call.
use Rattle.std.specs.Prelude.{ℕ, zero, suc, List, [], ◌++◌, codes, decimal}

-- the line of function k
abbrev pub function_line : ℕ → List ℕ
function_line k = codes "int f" ++ (decimal k ++ (codes "(int x){int i;int a[4];for(i=0;i<8;i=i+1)a[i]=x+i;return a[3]+" ++ (decimal k ++ codes ";}\n")))

-- what `main` does with it
abbrev pub call : ℕ → List ℕ
call k = codes "s=s+f" ++ (decimal k ++ codes "(s);putchar(48+(s&7));")

-- the lines of the functions below n, and the calls of them, in order
abbrev pub functions : ℕ → List ℕ
functions zero = []
functions (suc k) = functions k ++ function_line k

abbrev pub calls : ℕ → List ℕ
calls zero = []
calls (suc k) = calls k ++ call k

abbrev pub main_start : List ℕ
main_start = codes "int main(void){int s;s=0;"

abbrev pub main_end : List ℕ
main_end = codes "return 0;}\n"

abbrev pub sample_text : ℕ → List ℕ
sample_text n = functions n ++ (main_start ++ (calls n ++ main_end))
