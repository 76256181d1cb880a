-- The texts of the library in C, as the kinds of their tokens.
use Rattle.std.specs.Prelude.{pos, List, [], ◌∷◌, codes}
use Rattle.ob_words.specs.declared.types.IntType.TheVariants as int
use Rattle.ob_tree.specs.declared.tokens.TokenKind.{TokenKind}
use Rattle.ob_tree.specs.declared.tokens.TokenKind.TheVariants as kind
use Rattle.ob_tree.specs.declared.tokens.Keyword.TheVariants as w
use Rattle.ob_tree.specs.declared.tokens.Sign.TheVariants as s
use Rattle.ob_library.specs.declared.library.LibraryFunction.{LibraryFunction}
use Rattle.ob_library.specs.declared.library.LibraryFunction.TheVariants as f

-- `size_t strlen(char *s){size_t n;n=0;while(s[n])n=n+1;return n;}`
abbrev pub strlen_text : List TokenKind
strlen_text =
    kind.Word w.SizeT ∷ (kind.Name (codes "strlen") ∷ (kind.Sign s.OpenParen ∷ (kind.Word w.Char ∷ (
    kind.Sign s.Star ∷ (kind.Name (codes "s") ∷ (kind.Sign s.CloseParen ∷ (kind.Sign s.OpenBrace ∷ (
    kind.Word w.SizeT ∷ (kind.Name (codes "n") ∷ (kind.Sign s.Semi ∷ (kind.Name (codes "n") ∷ (kind.Sign s.Assign ∷ (
    kind.Number (pos 0) int.Int ∷ (kind.Sign s.Semi ∷ (kind.Word w.While ∷ (kind.Sign s.OpenParen ∷ (
    kind.Name (codes "s") ∷ (kind.Sign s.OpenBracket ∷ (kind.Name (codes "n") ∷ (kind.Sign s.CloseBracket ∷ (
    kind.Sign s.CloseParen ∷ (kind.Name (codes "n") ∷ (kind.Sign s.Assign ∷ (kind.Name (codes "n") ∷ (
    kind.Sign s.Plus ∷ (kind.Number (pos 1) int.Int ∷ (kind.Sign s.Semi ∷ (kind.Word w.Return ∷ (
    kind.Name (codes "n") ∷ (kind.Sign s.Semi ∷ (kind.Sign s.CloseBrace ∷ ([]))))))))))))))))))))))))))))))))

-- `char *strcpy(char *d,char *s){size_t n;n=0;while((d[n]=s[n]))n=n+1;return d;}`
abbrev pub strcpy_text : List TokenKind
strcpy_text =
    kind.Word w.Char ∷ (kind.Sign s.Star ∷ (kind.Name (codes "strcpy") ∷ (kind.Sign s.OpenParen ∷ (
    kind.Word w.Char ∷ (kind.Sign s.Star ∷ (kind.Name (codes "d") ∷ (kind.Sign s.Comma ∷ (kind.Word w.Char ∷ (
    kind.Sign s.Star ∷ (kind.Name (codes "s") ∷ (kind.Sign s.CloseParen ∷ (kind.Sign s.OpenBrace ∷ (
    kind.Word w.SizeT ∷ (kind.Name (codes "n") ∷ (kind.Sign s.Semi ∷ (kind.Name (codes "n") ∷ (kind.Sign s.Assign ∷ (
    kind.Number (pos 0) int.Int ∷ (kind.Sign s.Semi ∷ (kind.Word w.While ∷ (kind.Sign s.OpenParen ∷ (
    kind.Sign s.OpenParen ∷ (kind.Name (codes "d") ∷ (kind.Sign s.OpenBracket ∷ (kind.Name (codes "n") ∷ (
    kind.Sign s.CloseBracket ∷ (kind.Sign s.Assign ∷ (kind.Name (codes "s") ∷ (kind.Sign s.OpenBracket ∷ (
    kind.Name (codes "n") ∷ (kind.Sign s.CloseBracket ∷ (kind.Sign s.CloseParen ∷ (kind.Sign s.CloseParen ∷ (
    kind.Name (codes "n") ∷ (kind.Sign s.Assign ∷ (kind.Name (codes "n") ∷ (kind.Sign s.Plus ∷ (
    kind.Number (pos 1) int.Int ∷ (kind.Sign s.Semi ∷ (kind.Word w.Return ∷ (kind.Name (codes "d") ∷ (
    kind.Sign s.Semi ∷ (kind.Sign s.CloseBrace ∷ ([]))))))))))))))))))))))))))))))))))))))))))))

-- `char *strcat(char *d,char *s){size_t i;size_t n;i=0;while(d[i])i=i+1;n=0;while((d[i+n]=s[n]))n=n+1;return d;}`
abbrev pub strcat_text : List TokenKind
strcat_text =
    kind.Word w.Char ∷ (kind.Sign s.Star ∷ (kind.Name (codes "strcat") ∷ (kind.Sign s.OpenParen ∷ (
    kind.Word w.Char ∷ (kind.Sign s.Star ∷ (kind.Name (codes "d") ∷ (kind.Sign s.Comma ∷ (kind.Word w.Char ∷ (
    kind.Sign s.Star ∷ (kind.Name (codes "s") ∷ (kind.Sign s.CloseParen ∷ (kind.Sign s.OpenBrace ∷ (
    kind.Word w.SizeT ∷ (kind.Name (codes "i") ∷ (kind.Sign s.Semi ∷ (kind.Word w.SizeT ∷ (kind.Name (codes "n") ∷ (
    kind.Sign s.Semi ∷ (kind.Name (codes "i") ∷ (kind.Sign s.Assign ∷ (kind.Number (pos 0) int.Int ∷ (
    kind.Sign s.Semi ∷ (kind.Word w.While ∷ (kind.Sign s.OpenParen ∷ (kind.Name (codes "d") ∷ (
    kind.Sign s.OpenBracket ∷ (kind.Name (codes "i") ∷ (kind.Sign s.CloseBracket ∷ (kind.Sign s.CloseParen ∷ (
    kind.Name (codes "i") ∷ (kind.Sign s.Assign ∷ (kind.Name (codes "i") ∷ (kind.Sign s.Plus ∷ (
    kind.Number (pos 1) int.Int ∷ (kind.Sign s.Semi ∷ (kind.Name (codes "n") ∷ (kind.Sign s.Assign ∷ (
    kind.Number (pos 0) int.Int ∷ (kind.Sign s.Semi ∷ (kind.Word w.While ∷ (kind.Sign s.OpenParen ∷ (
    kind.Sign s.OpenParen ∷ (kind.Name (codes "d") ∷ (kind.Sign s.OpenBracket ∷ (kind.Name (codes "i") ∷ (
    kind.Sign s.Plus ∷ (kind.Name (codes "n") ∷ (kind.Sign s.CloseBracket ∷ (kind.Sign s.Assign ∷ (
    kind.Name (codes "s") ∷ (kind.Sign s.OpenBracket ∷ (kind.Name (codes "n") ∷ (kind.Sign s.CloseBracket ∷ (
    kind.Sign s.CloseParen ∷ (kind.Sign s.CloseParen ∷ (kind.Name (codes "n") ∷ (kind.Sign s.Assign ∷ (
    kind.Name (codes "n") ∷ (kind.Sign s.Plus ∷ (kind.Number (pos 1) int.Int ∷ (kind.Sign s.Semi ∷ (
    kind.Word w.Return ∷ (kind.Name (codes "d") ∷ (kind.Sign s.Semi ∷ (kind.Sign s.CloseBrace ∷ ([]))))))))))))))))))))))))))))))))))))))))))))))))))))))))))))))))))

-- `int strcmp(char *a,char *b){size_t n;n=0;while(a[n]&&a[n]==b[n])n=n+1;return (unsigned char)a[n]-(unsigned char)b[n];}`
abbrev pub strcmp_text : List TokenKind
strcmp_text =
    kind.Word w.Int ∷ (kind.Name (codes "strcmp") ∷ (kind.Sign s.OpenParen ∷ (kind.Word w.Char ∷ (kind.Sign s.Star ∷ (
    kind.Name (codes "a") ∷ (kind.Sign s.Comma ∷ (kind.Word w.Char ∷ (kind.Sign s.Star ∷ (kind.Name (codes "b") ∷ (
    kind.Sign s.CloseParen ∷ (kind.Sign s.OpenBrace ∷ (kind.Word w.SizeT ∷ (kind.Name (codes "n") ∷ (
    kind.Sign s.Semi ∷ (kind.Name (codes "n") ∷ (kind.Sign s.Assign ∷ (kind.Number (pos 0) int.Int ∷ (
    kind.Sign s.Semi ∷ (kind.Word w.While ∷ (kind.Sign s.OpenParen ∷ (kind.Name (codes "a") ∷ (
    kind.Sign s.OpenBracket ∷ (kind.Name (codes "n") ∷ (kind.Sign s.CloseBracket ∷ (kind.Sign s.AndAnd ∷ (
    kind.Name (codes "a") ∷ (kind.Sign s.OpenBracket ∷ (kind.Name (codes "n") ∷ (kind.Sign s.CloseBracket ∷ (
    kind.Sign s.EqEq ∷ (kind.Name (codes "b") ∷ (kind.Sign s.OpenBracket ∷ (kind.Name (codes "n") ∷ (
    kind.Sign s.CloseBracket ∷ (kind.Sign s.CloseParen ∷ (kind.Name (codes "n") ∷ (kind.Sign s.Assign ∷ (
    kind.Name (codes "n") ∷ (kind.Sign s.Plus ∷ (kind.Number (pos 1) int.Int ∷ (kind.Sign s.Semi ∷ (
    kind.Word w.Return ∷ (kind.Sign s.OpenParen ∷ (kind.Word w.Unsigned ∷ (kind.Word w.Char ∷ (
    kind.Sign s.CloseParen ∷ (kind.Name (codes "a") ∷ (kind.Sign s.OpenBracket ∷ (kind.Name (codes "n") ∷ (
    kind.Sign s.CloseBracket ∷ (kind.Sign s.Minus ∷ (kind.Sign s.OpenParen ∷ (kind.Word w.Unsigned ∷ (
    kind.Word w.Char ∷ (kind.Sign s.CloseParen ∷ (kind.Name (codes "b") ∷ (kind.Sign s.OpenBracket ∷ (
    kind.Name (codes "n") ∷ (kind.Sign s.CloseBracket ∷ (kind.Sign s.Semi ∷ (kind.Sign s.CloseBrace ∷ ([]))))))))))))))))))))))))))))))))))))))))))))))))))))))))))))))

-- `void *memset(void *p,int c,size_t n){char *d;size_t i;d=p;for(i=0;i<n;i=i+1)d[i]=c;return p;}`
abbrev pub memset_text : List TokenKind
memset_text =
    kind.Word w.Void ∷ (kind.Sign s.Star ∷ (kind.Name (codes "memset") ∷ (kind.Sign s.OpenParen ∷ (
    kind.Word w.Void ∷ (kind.Sign s.Star ∷ (kind.Name (codes "p") ∷ (kind.Sign s.Comma ∷ (kind.Word w.Int ∷ (
    kind.Name (codes "c") ∷ (kind.Sign s.Comma ∷ (kind.Word w.SizeT ∷ (kind.Name (codes "n") ∷ (
    kind.Sign s.CloseParen ∷ (kind.Sign s.OpenBrace ∷ (kind.Word w.Char ∷ (kind.Sign s.Star ∷ (
    kind.Name (codes "d") ∷ (kind.Sign s.Semi ∷ (kind.Word w.SizeT ∷ (kind.Name (codes "i") ∷ (kind.Sign s.Semi ∷ (
    kind.Name (codes "d") ∷ (kind.Sign s.Assign ∷ (kind.Name (codes "p") ∷ (kind.Sign s.Semi ∷ (kind.Word w.For ∷ (
    kind.Sign s.OpenParen ∷ (kind.Name (codes "i") ∷ (kind.Sign s.Assign ∷ (kind.Number (pos 0) int.Int ∷ (
    kind.Sign s.Semi ∷ (kind.Name (codes "i") ∷ (kind.Sign s.Lt ∷ (kind.Name (codes "n") ∷ (kind.Sign s.Semi ∷ (
    kind.Name (codes "i") ∷ (kind.Sign s.Assign ∷ (kind.Name (codes "i") ∷ (kind.Sign s.Plus ∷ (
    kind.Number (pos 1) int.Int ∷ (kind.Sign s.CloseParen ∷ (kind.Name (codes "d") ∷ (kind.Sign s.OpenBracket ∷ (
    kind.Name (codes "i") ∷ (kind.Sign s.CloseBracket ∷ (kind.Sign s.Assign ∷ (kind.Name (codes "c") ∷ (
    kind.Sign s.Semi ∷ (kind.Word w.Return ∷ (kind.Name (codes "p") ∷ (kind.Sign s.Semi ∷ (kind.Sign s.CloseBrace ∷ ([])))))))))))))))))))))))))))))))))))))))))))))))))))))

-- `void *memcpy(void *p,void *q,size_t n){char *d;char *s;size_t i;d=p;s=q;for(i=0;i<n;i=i+1)d[i]=s[i];return p;}`
abbrev pub memcpy_text : List TokenKind
memcpy_text =
    kind.Word w.Void ∷ (kind.Sign s.Star ∷ (kind.Name (codes "memcpy") ∷ (kind.Sign s.OpenParen ∷ (
    kind.Word w.Void ∷ (kind.Sign s.Star ∷ (kind.Name (codes "p") ∷ (kind.Sign s.Comma ∷ (kind.Word w.Void ∷ (
    kind.Sign s.Star ∷ (kind.Name (codes "q") ∷ (kind.Sign s.Comma ∷ (kind.Word w.SizeT ∷ (kind.Name (codes "n") ∷ (
    kind.Sign s.CloseParen ∷ (kind.Sign s.OpenBrace ∷ (kind.Word w.Char ∷ (kind.Sign s.Star ∷ (
    kind.Name (codes "d") ∷ (kind.Sign s.Semi ∷ (kind.Word w.Char ∷ (kind.Sign s.Star ∷ (kind.Name (codes "s") ∷ (
    kind.Sign s.Semi ∷ (kind.Word w.SizeT ∷ (kind.Name (codes "i") ∷ (kind.Sign s.Semi ∷ (kind.Name (codes "d") ∷ (
    kind.Sign s.Assign ∷ (kind.Name (codes "p") ∷ (kind.Sign s.Semi ∷ (kind.Name (codes "s") ∷ (kind.Sign s.Assign ∷ (
    kind.Name (codes "q") ∷ (kind.Sign s.Semi ∷ (kind.Word w.For ∷ (kind.Sign s.OpenParen ∷ (kind.Name (codes "i") ∷ (
    kind.Sign s.Assign ∷ (kind.Number (pos 0) int.Int ∷ (kind.Sign s.Semi ∷ (kind.Name (codes "i") ∷ (
    kind.Sign s.Lt ∷ (kind.Name (codes "n") ∷ (kind.Sign s.Semi ∷ (kind.Name (codes "i") ∷ (kind.Sign s.Assign ∷ (
    kind.Name (codes "i") ∷ (kind.Sign s.Plus ∷ (kind.Number (pos 1) int.Int ∷ (kind.Sign s.CloseParen ∷ (
    kind.Name (codes "d") ∷ (kind.Sign s.OpenBracket ∷ (kind.Name (codes "i") ∷ (kind.Sign s.CloseBracket ∷ (
    kind.Sign s.Assign ∷ (kind.Name (codes "s") ∷ (kind.Sign s.OpenBracket ∷ (kind.Name (codes "i") ∷ (
    kind.Sign s.CloseBracket ∷ (kind.Sign s.Semi ∷ (kind.Word w.Return ∷ (kind.Name (codes "p") ∷ (
    kind.Sign s.Semi ∷ (kind.Sign s.CloseBrace ∷ ([])))))))))))))))))))))))))))))))))))))))))))))))))))))))))))))))))

-- `int puts(char *s){size_t n;n=0;while(s[n]){putchar(s[n]);n=n+1;}putchar(10);return 0;}`
abbrev pub puts_text : List TokenKind
puts_text =
    kind.Word w.Int ∷ (kind.Name (codes "puts") ∷ (kind.Sign s.OpenParen ∷ (kind.Word w.Char ∷ (kind.Sign s.Star ∷ (
    kind.Name (codes "s") ∷ (kind.Sign s.CloseParen ∷ (kind.Sign s.OpenBrace ∷ (kind.Word w.SizeT ∷ (
    kind.Name (codes "n") ∷ (kind.Sign s.Semi ∷ (kind.Name (codes "n") ∷ (kind.Sign s.Assign ∷ (
    kind.Number (pos 0) int.Int ∷ (kind.Sign s.Semi ∷ (kind.Word w.While ∷ (kind.Sign s.OpenParen ∷ (
    kind.Name (codes "s") ∷ (kind.Sign s.OpenBracket ∷ (kind.Name (codes "n") ∷ (kind.Sign s.CloseBracket ∷ (
    kind.Sign s.CloseParen ∷ (kind.Sign s.OpenBrace ∷ (kind.Name (codes "putchar") ∷ (kind.Sign s.OpenParen ∷ (
    kind.Name (codes "s") ∷ (kind.Sign s.OpenBracket ∷ (kind.Name (codes "n") ∷ (kind.Sign s.CloseBracket ∷ (
    kind.Sign s.CloseParen ∷ (kind.Sign s.Semi ∷ (kind.Name (codes "n") ∷ (kind.Sign s.Assign ∷ (
    kind.Name (codes "n") ∷ (kind.Sign s.Plus ∷ (kind.Number (pos 1) int.Int ∷ (kind.Sign s.Semi ∷ (
    kind.Sign s.CloseBrace ∷ (kind.Name (codes "putchar") ∷ (kind.Sign s.OpenParen ∷ (kind.Number (pos 10) int.Int ∷ (
    kind.Sign s.CloseParen ∷ (kind.Sign s.Semi ∷ (kind.Word w.Return ∷ (kind.Number (pos 0) int.Int ∷ (
    kind.Sign s.Semi ∷ (kind.Sign s.CloseBrace ∷ ([])))))))))))))))))))))))))))))))))))))))))))))))

-- `int atoi(char *s){int n;int g;size_t i;i=0;while(s[i]==32||(s[i]>=9&&s[i]<=13))i=i+1;g=0;if(s[i]==45){g=1;i=i+1;}else if(s[i]==43)i=i+1;n=0;while(s[i]>=48&&s[i]<=57){n=n*10+(s[i]-48);i=i+1;}return g?0-n:n;}`
abbrev pub atoi_text : List TokenKind
atoi_text =
    kind.Word w.Int ∷ (kind.Name (codes "atoi") ∷ (kind.Sign s.OpenParen ∷ (kind.Word w.Char ∷ (kind.Sign s.Star ∷ (
    kind.Name (codes "s") ∷ (kind.Sign s.CloseParen ∷ (kind.Sign s.OpenBrace ∷ (kind.Word w.Int ∷ (
    kind.Name (codes "n") ∷ (kind.Sign s.Semi ∷ (kind.Word w.Int ∷ (kind.Name (codes "g") ∷ (kind.Sign s.Semi ∷ (
    kind.Word w.SizeT ∷ (kind.Name (codes "i") ∷ (kind.Sign s.Semi ∷ (kind.Name (codes "i") ∷ (kind.Sign s.Assign ∷ (
    kind.Number (pos 0) int.Int ∷ (kind.Sign s.Semi ∷ (kind.Word w.While ∷ (kind.Sign s.OpenParen ∷ (
    kind.Name (codes "s") ∷ (kind.Sign s.OpenBracket ∷ (kind.Name (codes "i") ∷ (kind.Sign s.CloseBracket ∷ (
    kind.Sign s.EqEq ∷ (kind.Number (pos 32) int.Int ∷ (kind.Sign s.OrOr ∷ (kind.Sign s.OpenParen ∷ (
    kind.Name (codes "s") ∷ (kind.Sign s.OpenBracket ∷ (kind.Name (codes "i") ∷ (kind.Sign s.CloseBracket ∷ (
    kind.Sign s.Ge ∷ (kind.Number (pos 9) int.Int ∷ (kind.Sign s.AndAnd ∷ (kind.Name (codes "s") ∷ (
    kind.Sign s.OpenBracket ∷ (kind.Name (codes "i") ∷ (kind.Sign s.CloseBracket ∷ (kind.Sign s.Le ∷ (
    kind.Number (pos 13) int.Int ∷ (kind.Sign s.CloseParen ∷ (kind.Sign s.CloseParen ∷ (kind.Name (codes "i") ∷ (
    kind.Sign s.Assign ∷ (kind.Name (codes "i") ∷ (kind.Sign s.Plus ∷ (kind.Number (pos 1) int.Int ∷ (
    kind.Sign s.Semi ∷ (kind.Name (codes "g") ∷ (kind.Sign s.Assign ∷ (kind.Number (pos 0) int.Int ∷ (
    kind.Sign s.Semi ∷ (kind.Word w.If ∷ (kind.Sign s.OpenParen ∷ (kind.Name (codes "s") ∷ (
    kind.Sign s.OpenBracket ∷ (kind.Name (codes "i") ∷ (kind.Sign s.CloseBracket ∷ (kind.Sign s.EqEq ∷ (
    kind.Number (pos 45) int.Int ∷ (kind.Sign s.CloseParen ∷ (kind.Sign s.OpenBrace ∷ (kind.Name (codes "g") ∷ (
    kind.Sign s.Assign ∷ (kind.Number (pos 1) int.Int ∷ (kind.Sign s.Semi ∷ (kind.Name (codes "i") ∷ (
    kind.Sign s.Assign ∷ (kind.Name (codes "i") ∷ (kind.Sign s.Plus ∷ (kind.Number (pos 1) int.Int ∷ (
    kind.Sign s.Semi ∷ (kind.Sign s.CloseBrace ∷ (kind.Word w.Else ∷ (kind.Word w.If ∷ (kind.Sign s.OpenParen ∷ (
    kind.Name (codes "s") ∷ (kind.Sign s.OpenBracket ∷ (kind.Name (codes "i") ∷ (kind.Sign s.CloseBracket ∷ (
    kind.Sign s.EqEq ∷ (kind.Number (pos 43) int.Int ∷ (kind.Sign s.CloseParen ∷ (kind.Name (codes "i") ∷ (
    kind.Sign s.Assign ∷ (kind.Name (codes "i") ∷ (kind.Sign s.Plus ∷ (kind.Number (pos 1) int.Int ∷ (
    kind.Sign s.Semi ∷ (kind.Name (codes "n") ∷ (kind.Sign s.Assign ∷ (kind.Number (pos 0) int.Int ∷ (
    kind.Sign s.Semi ∷ (kind.Word w.While ∷ (kind.Sign s.OpenParen ∷ (kind.Name (codes "s") ∷ (
    kind.Sign s.OpenBracket ∷ (kind.Name (codes "i") ∷ (kind.Sign s.CloseBracket ∷ (kind.Sign s.Ge ∷ (
    kind.Number (pos 48) int.Int ∷ (kind.Sign s.AndAnd ∷ (kind.Name (codes "s") ∷ (kind.Sign s.OpenBracket ∷ (
    kind.Name (codes "i") ∷ (kind.Sign s.CloseBracket ∷ (kind.Sign s.Le ∷ (kind.Number (pos 57) int.Int ∷ (
    kind.Sign s.CloseParen ∷ (kind.Sign s.OpenBrace ∷ (kind.Name (codes "n") ∷ (kind.Sign s.Assign ∷ (
    kind.Name (codes "n") ∷ (kind.Sign s.Star ∷ (kind.Number (pos 10) int.Int ∷ (kind.Sign s.Plus ∷ (
    kind.Sign s.OpenParen ∷ (kind.Name (codes "s") ∷ (kind.Sign s.OpenBracket ∷ (kind.Name (codes "i") ∷ (
    kind.Sign s.CloseBracket ∷ (kind.Sign s.Minus ∷ (kind.Number (pos 48) int.Int ∷ (kind.Sign s.CloseParen ∷ (
    kind.Sign s.Semi ∷ (kind.Name (codes "i") ∷ (kind.Sign s.Assign ∷ (kind.Name (codes "i") ∷ (kind.Sign s.Plus ∷ (
    kind.Number (pos 1) int.Int ∷ (kind.Sign s.Semi ∷ (kind.Sign s.CloseBrace ∷ (kind.Word w.Return ∷ (
    kind.Name (codes "g") ∷ (kind.Sign s.Question ∷ (kind.Number (pos 0) int.Int ∷ (kind.Sign s.Minus ∷ (
    kind.Name (codes "n") ∷ (kind.Sign s.Colon ∷ (kind.Name (codes "n") ∷ (kind.Sign s.Semi ∷ (
    kind.Sign s.CloseBrace ∷ ([]))))))))))))))))))))))))))))))))))))))))))))))))))))))))))))))))))))))))))))))))))))))))))))))))))))))))))))))))))))))))))))))))))))))))))))))))))

-- `int __print_u(unsigned long v,unsigned long b){char d[24];int n;int k;n=0;do{d[n]="0123456789abcdef"[v%b];n=n+1;v=v/b;}while(v!=0);k=n;while(k>0){k=k-1;putchar(d[k]);}return n;}`
abbrev pub print_u_text : List TokenKind
print_u_text =
    kind.Word w.Int ∷ (kind.Name (codes "__print_u") ∷ (kind.Sign s.OpenParen ∷ (kind.Word w.Unsigned ∷ (
    kind.Word w.Long ∷ (kind.Name (codes "v") ∷ (kind.Sign s.Comma ∷ (kind.Word w.Unsigned ∷ (kind.Word w.Long ∷ (
    kind.Name (codes "b") ∷ (kind.Sign s.CloseParen ∷ (kind.Sign s.OpenBrace ∷ (kind.Word w.Char ∷ (
    kind.Name (codes "d") ∷ (kind.Sign s.OpenBracket ∷ (kind.Number (pos 24) int.Int ∷ (kind.Sign s.CloseBracket ∷ (
    kind.Sign s.Semi ∷ (kind.Word w.Int ∷ (kind.Name (codes "n") ∷ (kind.Sign s.Semi ∷ (kind.Word w.Int ∷ (
    kind.Name (codes "k") ∷ (kind.Sign s.Semi ∷ (kind.Name (codes "n") ∷ (kind.Sign s.Assign ∷ (
    kind.Number (pos 0) int.Int ∷ (kind.Sign s.Semi ∷ (kind.Word w.Do ∷ (kind.Sign s.OpenBrace ∷ (
    kind.Name (codes "d") ∷ (kind.Sign s.OpenBracket ∷ (kind.Name (codes "n") ∷ (kind.Sign s.CloseBracket ∷ (
    kind.Sign s.Assign ∷ (kind.Str (codes "0123456789abcdef") ∷ (kind.Sign s.OpenBracket ∷ (kind.Name (codes "v") ∷ (
    kind.Sign s.Percent ∷ (kind.Name (codes "b") ∷ (kind.Sign s.CloseBracket ∷ (kind.Sign s.Semi ∷ (
    kind.Name (codes "n") ∷ (kind.Sign s.Assign ∷ (kind.Name (codes "n") ∷ (kind.Sign s.Plus ∷ (
    kind.Number (pos 1) int.Int ∷ (kind.Sign s.Semi ∷ (kind.Name (codes "v") ∷ (kind.Sign s.Assign ∷ (
    kind.Name (codes "v") ∷ (kind.Sign s.Slash ∷ (kind.Name (codes "b") ∷ (kind.Sign s.Semi ∷ (
    kind.Sign s.CloseBrace ∷ (kind.Word w.While ∷ (kind.Sign s.OpenParen ∷ (kind.Name (codes "v") ∷ (
    kind.Sign s.NotEq ∷ (kind.Number (pos 0) int.Int ∷ (kind.Sign s.CloseParen ∷ (kind.Sign s.Semi ∷ (
    kind.Name (codes "k") ∷ (kind.Sign s.Assign ∷ (kind.Name (codes "n") ∷ (kind.Sign s.Semi ∷ (kind.Word w.While ∷ (
    kind.Sign s.OpenParen ∷ (kind.Name (codes "k") ∷ (kind.Sign s.Gt ∷ (kind.Number (pos 0) int.Int ∷ (
    kind.Sign s.CloseParen ∷ (kind.Sign s.OpenBrace ∷ (kind.Name (codes "k") ∷ (kind.Sign s.Assign ∷ (
    kind.Name (codes "k") ∷ (kind.Sign s.Minus ∷ (kind.Number (pos 1) int.Int ∷ (kind.Sign s.Semi ∷ (
    kind.Name (codes "putchar") ∷ (kind.Sign s.OpenParen ∷ (kind.Name (codes "d") ∷ (kind.Sign s.OpenBracket ∷ (
    kind.Name (codes "k") ∷ (kind.Sign s.CloseBracket ∷ (kind.Sign s.CloseParen ∷ (kind.Sign s.Semi ∷ (
    kind.Sign s.CloseBrace ∷ (kind.Word w.Return ∷ (kind.Name (codes "n") ∷ (kind.Sign s.Semi ∷ (
    kind.Sign s.CloseBrace ∷ ([]))))))))))))))))))))))))))))))))))))))))))))))))))))))))))))))))))))))))))))))))))))))))))))

-- `int __print_d(long v){if(v<0){putchar(45);return __print_u(0-(unsigned long)v,10)+1;}return __print_u(v,10);}`
abbrev pub print_d_text : List TokenKind
print_d_text =
    kind.Word w.Int ∷ (kind.Name (codes "__print_d") ∷ (kind.Sign s.OpenParen ∷ (kind.Word w.Long ∷ (
    kind.Name (codes "v") ∷ (kind.Sign s.CloseParen ∷ (kind.Sign s.OpenBrace ∷ (kind.Word w.If ∷ (
    kind.Sign s.OpenParen ∷ (kind.Name (codes "v") ∷ (kind.Sign s.Lt ∷ (kind.Number (pos 0) int.Int ∷ (
    kind.Sign s.CloseParen ∷ (kind.Sign s.OpenBrace ∷ (kind.Name (codes "putchar") ∷ (kind.Sign s.OpenParen ∷ (
    kind.Number (pos 45) int.Int ∷ (kind.Sign s.CloseParen ∷ (kind.Sign s.Semi ∷ (kind.Word w.Return ∷ (
    kind.Name (codes "__print_u") ∷ (kind.Sign s.OpenParen ∷ (kind.Number (pos 0) int.Int ∷ (kind.Sign s.Minus ∷ (
    kind.Sign s.OpenParen ∷ (kind.Word w.Unsigned ∷ (kind.Word w.Long ∷ (kind.Sign s.CloseParen ∷ (
    kind.Name (codes "v") ∷ (kind.Sign s.Comma ∷ (kind.Number (pos 10) int.Int ∷ (kind.Sign s.CloseParen ∷ (
    kind.Sign s.Plus ∷ (kind.Number (pos 1) int.Int ∷ (kind.Sign s.Semi ∷ (kind.Sign s.CloseBrace ∷ (
    kind.Word w.Return ∷ (kind.Name (codes "__print_u") ∷ (kind.Sign s.OpenParen ∷ (kind.Name (codes "v") ∷ (
    kind.Sign s.Comma ∷ (kind.Number (pos 10) int.Int ∷ (kind.Sign s.CloseParen ∷ (kind.Sign s.Semi ∷ (
    kind.Sign s.CloseBrace ∷ ([])))))))))))))))))))))))))))))))))))))))))))))

-- `int __print_s(char *s){int n;n=0;while(s[n]){putchar(s[n]);n=n+1;}return n;}`
abbrev pub print_s_text : List TokenKind
print_s_text =
    kind.Word w.Int ∷ (kind.Name (codes "__print_s") ∷ (kind.Sign s.OpenParen ∷ (kind.Word w.Char ∷ (
    kind.Sign s.Star ∷ (kind.Name (codes "s") ∷ (kind.Sign s.CloseParen ∷ (kind.Sign s.OpenBrace ∷ (
    kind.Word w.Int ∷ (kind.Name (codes "n") ∷ (kind.Sign s.Semi ∷ (kind.Name (codes "n") ∷ (kind.Sign s.Assign ∷ (
    kind.Number (pos 0) int.Int ∷ (kind.Sign s.Semi ∷ (kind.Word w.While ∷ (kind.Sign s.OpenParen ∷ (
    kind.Name (codes "s") ∷ (kind.Sign s.OpenBracket ∷ (kind.Name (codes "n") ∷ (kind.Sign s.CloseBracket ∷ (
    kind.Sign s.CloseParen ∷ (kind.Sign s.OpenBrace ∷ (kind.Name (codes "putchar") ∷ (kind.Sign s.OpenParen ∷ (
    kind.Name (codes "s") ∷ (kind.Sign s.OpenBracket ∷ (kind.Name (codes "n") ∷ (kind.Sign s.CloseBracket ∷ (
    kind.Sign s.CloseParen ∷ (kind.Sign s.Semi ∷ (kind.Name (codes "n") ∷ (kind.Sign s.Assign ∷ (
    kind.Name (codes "n") ∷ (kind.Sign s.Plus ∷ (kind.Number (pos 1) int.Int ∷ (kind.Sign s.Semi ∷ (
    kind.Sign s.CloseBrace ∷ (kind.Word w.Return ∷ (kind.Name (codes "n") ∷ (kind.Sign s.Semi ∷ (
    kind.Sign s.CloseBrace ∷ ([]))))))))))))))))))))))))))))))))))))))))))

abbrev pub text_of : LibraryFunction → List TokenKind
text_of f.Strlen = strlen_text
text_of f.Strcpy = strcpy_text
text_of f.Strcat = strcat_text
text_of f.Strcmp = strcmp_text
text_of f.Memset = memset_text
text_of f.Memcpy = memcpy_text
text_of f.Puts = puts_text
text_of f.Atoi = atoi_text
text_of f.PrintU = print_u_text
text_of f.PrintD = print_d_text
text_of f.PrintS = print_s_text
