-- What lists with one item more spell, that they are valid, and their nodes that have begun.
use Rattle.std.proofs.Common.{◌≡◌, ℕ, List, [], ◌∷◌, ◌++◌, map, refl, sym, ◌∙◌, ap, append_assoc, append-nil}
use Rattle.std.specs.List.{AllByRecursion}
use Rattle.ob_tree.specs.declared.tokens.TokenKind.TheVariants as kind
use Rattle.ob_tree.specs.declared.tokens.Sign.TheVariants as sign
use Rattle.ob_tree.specs.Trees.{ExprTree, ExprTrees, SpecTree, MemberTrees, ObjTree, ObjTrees, DimTrees}
use Rattle.ob_tree.specs.Spelling.{spell, spell_arguments, spell_more_arguments, spell_spec, spell_members, spell_objs, spell_more_objs, spell_obj, spell_dims}
use Rattle.ob_tree.specs.Valid.{ValidArguments, ValidStrings, ValidSpec, ValidMembers, ValidMemberNames, ValidMemberName, ValidDims, HasDeclarator, HasMember, IsSpelled, IsOf}
use Rattle.ob_tree.specs.ExprStates.{add_argument, add_dim, add_obj, add_member}
use Rattle.ob_exprs.proofs.Shapes.{spell_arguments_before, spell_objs_before}

-- the last of a list with commas
more-added : (es : ExprTrees) (x e : ExprTree) → spell x ++ spell_more_arguments (add_argument es e) ≡ (spell x ++ kind.Sign sign.Comma ∷ spell_arguments_before es) ++ spell e
more-added ExprTrees.NoArguments x e = ap (λ ks. spell x ++ kind.Sign sign.Comma ∷ ks) (append-nil (spell e)) ∙ sym (append_assoc (spell x) (kind.Sign sign.Comma ∷ []) (spell e))
more-added (ExprTrees.Argument y es) x e =
    ap (λ ks. spell x ++ kind.Sign sign.Comma ∷ ks) (more-added es y e)
    ∙ sym (append_assoc (spell x) (kind.Sign sign.Comma ∷ (spell y ++ kind.Sign sign.Comma ∷ spell_arguments_before es)) (spell e))

pub arguments-added : (es : ExprTrees) (e : ExprTree) → spell_arguments (add_argument es e) ≡ spell_arguments_before es ++ spell e
arguments-added ExprTrees.NoArguments e = append-nil (spell e)
arguments-added (ExprTrees.Argument x es) e = more-added es x e

pub arguments-before : (es : ExprTrees) (e : ExprTree) → spell_arguments_before (add_argument es e) ≡ spell_arguments_before es ++ (spell e ++ kind.Sign sign.Comma ∷ [])
arguments-before ExprTrees.NoArguments e = refl
arguments-before (ExprTrees.Argument x es) e =
    ap (λ ks. spell x ++ kind.Sign sign.Comma ∷ ks) (arguments-before es e)
    ∙ sym (append_assoc (spell x) (kind.Sign sign.Comma ∷ spell_arguments_before es) (spell e ++ kind.Sign sign.Comma ∷ []))

pub arguments-valid : (es : ExprTrees) (e : ExprTree) → ValidArguments es → IsOf 1 e → ValidArguments (add_argument es e)
arguments-valid ExprTrees.NoArguments e v w = (w.0, w.1, tt)
arguments-valid (ExprTrees.Argument x es) e v w = (v.0, v.1, arguments-valid es e v.2 w)

more-objs-added : (os : ObjTrees) (x o : ObjTree) → spell_obj x ++ spell_more_objs (add_obj os o) ≡ (spell_obj x ++ kind.Sign sign.Comma ∷ spell_objs_before os) ++ spell_obj o
more-objs-added ObjTrees.NoDeclarators x o = ap (λ ks. spell_obj x ++ kind.Sign sign.Comma ∷ ks) (append-nil (spell_obj o)) ∙ sym (append_assoc (spell_obj x) (kind.Sign sign.Comma ∷ []) (spell_obj o))
more-objs-added (ObjTrees.Declarator y os) x o =
    ap (λ ks. spell_obj x ++ kind.Sign sign.Comma ∷ ks) (more-objs-added os y o)
    ∙ sym (append_assoc (spell_obj x) (kind.Sign sign.Comma ∷ (spell_obj y ++ kind.Sign sign.Comma ∷ spell_objs_before os)) (spell_obj o))

pub objs-added : (os : ObjTrees) (o : ObjTree) → spell_objs (add_obj os o) ≡ spell_objs_before os ++ spell_obj o
objs-added ObjTrees.NoDeclarators o = append-nil (spell_obj o)
objs-added (ObjTrees.Declarator x os) o = more-objs-added os x o

pub objs-before : (os : ObjTrees) (o : ObjTree) → spell_objs_before (add_obj os o) ≡ spell_objs_before os ++ (spell_obj o ++ kind.Sign sign.Comma ∷ [])
objs-before ObjTrees.NoDeclarators o = refl
objs-before (ObjTrees.Declarator x os) o =
    ap (λ ks. spell_obj x ++ kind.Sign sign.Comma ∷ ks) (objs-before os o)
    ∙ sym (append_assoc (spell_obj x) (kind.Sign sign.Comma ∷ spell_objs_before os) (spell_obj o ++ kind.Sign sign.Comma ∷ []))

pub objs-valid : (os : ObjTrees) (o : ObjTree) → ValidMemberNames os → ValidMemberName o → ValidMemberNames (add_obj os o)
objs-valid ObjTrees.NoDeclarators o v w = (w, tt)
objs-valid (ObjTrees.Declarator x os) o v w = (v.0, objs-valid os o v.1 w)

pub objs-some : (os : ObjTrees) (o : ObjTree) → HasDeclarator (add_obj os o)
objs-some ObjTrees.NoDeclarators o = tt
objs-some (ObjTrees.Declarator x os) o = tt

pub dims-added : (ds : DimTrees) (e : ExprTree) → spell_dims (add_dim ds e) ≡ spell_dims ds ++ (kind.Sign sign.OpenBracket ∷ (spell e ++ kind.Sign sign.CloseBracket ∷ []))
dims-added DimTrees.NoDims e = refl
dims-added (DimTrees.Unsized ds) e = ap (λ ks. kind.Sign sign.OpenBracket ∷ (kind.Sign sign.CloseBracket ∷ ks)) (dims-added ds e)
dims-added (DimTrees.Sized x ds) e =
    ap (λ ks. kind.Sign sign.OpenBracket ∷ (spell x ++ kind.Sign sign.CloseBracket ∷ ks)) (dims-added ds e)
    ∙ ap (λ ks. kind.Sign sign.OpenBracket ∷ ks) (sym (append_assoc (spell x) (kind.Sign sign.CloseBracket ∷ spell_dims ds) (kind.Sign sign.OpenBracket ∷ (spell e ++ kind.Sign sign.CloseBracket ∷ []))))

pub dims-valid : (ds : DimTrees) (e : ExprTree) → ValidDims ds → IsOf 2 e → ValidDims (add_dim ds e)
dims-valid DimTrees.NoDims e v w = (w.0, w.1, tt)
dims-valid (DimTrees.Unsized ds) e v w = v
dims-valid (DimTrees.Sized x ds) e v w = (v.0, v.1, dims-valid ds e v.2 w)

pub members-added : (ms : MemberTrees) (s : SpecTree) (names : ObjTrees)
    → spell_members (add_member ms s names) ≡ spell_members ms ++ (spell_spec s ++ (spell_objs names ++ kind.Sign sign.Semi ∷ []))
members-added MemberTrees.NoMembers s names = refl
members-added (MemberTrees.MemberLine t others ms) s names =
    let zs = spell_spec s ++ (spell_objs names ++ kind.Sign sign.Semi ∷ []) in
    ap (λ ks. spell_spec t ++ (spell_objs others ++ kind.Sign sign.Semi ∷ ks)) (members-added ms s names)
    ∙ ap (λ ks. spell_spec t ++ ks) (sym (append_assoc (spell_objs others) (kind.Sign sign.Semi ∷ spell_members ms) zs))
    ∙ sym (append_assoc (spell_spec t) (spell_objs others ++ kind.Sign sign.Semi ∷ spell_members ms) zs)

pub members-valid : (ms : MemberTrees) (s : SpecTree) (names : ObjTrees) → ValidMembers ms → ValidSpec s → HasDeclarator names → ValidMemberNames names
    → ValidMembers (add_member ms s names)
members-valid MemberTrees.NoMembers s names v a b c = (a, b, c, tt)
members-valid (MemberTrees.MemberLine t others ms) s names v a b c = (v.0, v.1, v.2, members-valid ms s names v.3 a b c)

pub members-some : (ms : MemberTrees) (s : SpecTree) (names : ObjTrees) → HasMember (add_member ms s names)
members-some MemberTrees.NoMembers s names = tt
members-some (MemberTrees.MemberLine t others ms) s names = tt

pub strings-valid : (ss : List (List ℕ)) (s : List ℕ) → ValidStrings ss → IsSpelled (kind.Str s) → ValidStrings (ss ++ s ∷ [])
strings-valid [] s v w = absurd v
strings-valid (x ∷ xs) s v w = (v.0, more xs v.1)
  where
    more : (xs : List (List ℕ)) → AllByRecursion (λ x. IsSpelled (kind.Str x)) xs → AllByRecursion (λ x. IsSpelled (kind.Str x)) (xs ++ s ∷ [])
    more [] v = (w, tt)
    more (x ∷ xs) v = (v.0, more xs v.1)

pub strings-added : (ss : List (List ℕ)) (s : List ℕ) → map kind.Str (ss ++ s ∷ []) ≡ map kind.Str ss ++ kind.Str s ∷ []
strings-added [] s = refl
strings-added (x ∷ ss) s = ap (λ ks. kind.Str x ∷ ks) (strings-added ss s)
