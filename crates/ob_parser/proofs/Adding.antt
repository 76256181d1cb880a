-- Lists with one item more: what they spell, whether they are valid, and their nodes.
use Rattle.std.proofs.Common.{◌≡◌, ℕ, zero, ◌+◌, ◌-◌, ◌≤◌, max, List, [], ◌∷◌, ◌++◌, length, Bool, true, false, Option, None, refl, sym, ◌∙◌, ap, subst, arith, append_assoc, append-nil, length-append}
use Rattle.std.specs.Prelude.{cond}
use Rattle.std.specs.List.{AllByRecursion}
use Rattle.ob_tree.specs.declared.tokens.TokenKind.TheVariants as kind
use Rattle.ob_tree.specs.declared.tokens.Keyword.TheVariants as word
use Rattle.ob_tree.specs.declared.tokens.Sign.TheVariants as sign
use Rattle.ob_tree.specs.Trees.{ExprTree, SpecTree, DimTrees, InitTree, InitTrees}
use Rattle.ob_tree.specs.Programs.{LocalTree, StmtTree, BlockTrees, ParamTree, ParamsTree, FileTree, ItemTree, ProgramTree}
use Rattle.ob_tree.specs.Spelling.{stars, spell, spell_spec, spell_name, spell_dims, spell_init, spell_inits, spell_more_inits, listed, more_listed}
use Rattle.ob_tree.specs.ProgramSpelling.{spell_local, spell_stmt, spell_block, spell_param, spell_params, spell_file, spell_item, spell_program}
use Rattle.ob_tree.specs.Valid.{ValidOpenDims, ValidInit, ValidInits, HasItem, IsOf}
use Rattle.ob_tree.specs.ProgramValid.{ValidLocal, ValidStmt, ValidBlock, ValidParam, ValidList, ValidParams, is_void_alone}
use Rattle.ob_tree.specs.Places.{width, width_dims, width_init}
use Rattle.ob_tree.specs.ProgramPlaces.{width_local, width_stmt, width_param, width_file, width_item}
use Rattle.ob_tree.specs.Paths.{begun, begun_dims, begun_init, begun_inits, height_dims, height_init, height_inits}
use Rattle.ob_tree.specs.ProgramPaths.{begun_local, begun_stmt, begun_block, begun_param, begun_list, begun_params, begun_file, begun_files, begun_item, begun_program, height_local, height_stmt, height_block, height_param, height_list, height_params, height_file, height_files, height_item, height_program}
use Rattle.ob_tree.specs.ExprMachine.{add_dim}
use Rattle.ob_tree.specs.ProgramParts.{add_statement, add_local, add_init, params_of, has_items}
use Rattle.ob_exprs.specs.DeepestPaths.{count}
use Rattle.ob_exprs.proofs.Adding.{dims-valid}
use Rattle.ob_parser.proofs.Most.{node-most, most, init-most, stmt-most, local-most, param-most, file-most, item-most}
use Rattle.ob_parser.proofs.Shapes.{names_before, params_before, inits_before}

-- Blocks.
pub statement-spelled : (items : BlockTrees) (s : StmtTree) → spell_block (add_statement items s) ≡ spell_block items ++ spell_stmt s
statement-spelled BlockTrees.NoItems s = append-nil (spell_stmt s)
statement-spelled (BlockTrees.Declaration l items) s =
    ap (λ ks. spell_local l ++ ks) (statement-spelled items s) ∙ sym (append_assoc (spell_local l) (spell_block items) (spell_stmt s))
statement-spelled (BlockTrees.Statement x items) s =
    ap (λ ks. spell_stmt x ++ ks) (statement-spelled items s) ∙ sym (append_assoc (spell_stmt x) (spell_block items) (spell_stmt s))

pub local-spelled : (items : BlockTrees) (l : LocalTree) → spell_block (add_local items l) ≡ spell_block items ++ spell_local l
local-spelled BlockTrees.NoItems l = append-nil (spell_local l)
local-spelled (BlockTrees.Declaration x items) l =
    ap (λ ks. spell_local x ++ ks) (local-spelled items l) ∙ sym (append_assoc (spell_local x) (spell_block items) (spell_local l))
local-spelled (BlockTrees.Statement s items) l =
    ap (λ ks. spell_stmt s ++ ks) (local-spelled items l) ∙ sym (append_assoc (spell_stmt s) (spell_block items) (spell_local l))

pub statement-valid : (items : BlockTrees) (s : StmtTree) → ValidBlock items → ValidStmt s → ValidBlock (add_statement items s)
statement-valid BlockTrees.NoItems s v w = (w, tt)
statement-valid (BlockTrees.Declaration l items) s v w = (v.0, statement-valid items s v.1 w)
statement-valid (BlockTrees.Statement x items) s v w = (v.0, statement-valid items s v.1 w)

pub local-valid : (items : BlockTrees) (l : LocalTree) → ValidBlock items → ValidLocal l → ValidBlock (add_local items l)
local-valid BlockTrees.NoItems l v w = (w, tt)
local-valid (BlockTrees.Declaration x items) l v w = (v.0, local-valid items l v.1 w)
local-valid (BlockTrees.Statement s items) l v w = (v.0, local-valid items l v.1 w)

pub statement-height : (items : BlockTrees) (s : StmtTree) → height_block (add_statement items s) ≡ max (height_block items) (height_stmt s)
statement-height BlockTrees.NoItems s = omega arith
statement-height (BlockTrees.Declaration l items) s = omega (arith, statement-height items s)
statement-height (BlockTrees.Statement x items) s = omega (arith, statement-height items s)

pub local-height : (items : BlockTrees) (l : LocalTree) → height_block (add_local items l) ≡ max (height_block items) (height_local l)
local-height BlockTrees.NoItems l = omega arith
local-height (BlockTrees.Declaration x items) l = omega (arith, local-height items l)
local-height (BlockTrees.Statement s items) l = omega (arith, local-height items l)

pub statement-begun : (items : BlockTrees) (s : StmtTree) (k j : ℕ) → k ≡ length (spell_block items) + j
    → begun_block (add_statement items s) k ≤ max (height_block items) (begun_stmt s j)
statement-begun BlockTrees.NoItems s k j h = let e : k ≡ j = omega (arith, h) in subst (λ i. max (begun_stmt s i) 0 ≤ max 0 (begun_stmt s j)) (sym e) (omega arith)
statement-begun (BlockTrees.Declaration l items) s k j h =
    let n = length-append (spell_local l) (spell_block items) in
    omega (arith, local-most l k, statement-begun items s (k - width_local l) j (omega (arith, h, n)))
statement-begun (BlockTrees.Statement x items) s k j h =
    let n = length-append (spell_stmt x) (spell_block items) in
    omega (arith, stmt-most x k, statement-begun items s (k - width_stmt x) j (omega (arith, h, n)))

pub local-begun : (items : BlockTrees) (l : LocalTree) (k j : ℕ) → k ≡ length (spell_block items) + j
    → begun_block (add_local items l) k ≤ max (height_block items) (begun_local l j)
local-begun BlockTrees.NoItems l k j h = let e : k ≡ j = omega (arith, h) in subst (λ i. max (begun_local l i) 0 ≤ max 0 (begun_local l j)) (sym e) (omega arith)
local-begun (BlockTrees.Declaration x items) l k j h =
    let n = length-append (spell_local x) (spell_block items) in
    omega (arith, local-most x k, local-begun items l (k - width_local x) j (omega (arith, h, n)))
local-begun (BlockTrees.Statement s items) l k j h =
    let n = length-append (spell_stmt s) (spell_block items) in
    omega (arith, stmt-most s k, local-begun items l (k - width_stmt s) j (omega (arith, h, n)))

-- External declarations.
pub item-spelled : (items : ProgramTree) (i : ItemTree) → spell_program (items ++ i ∷ []) ≡ spell_program items ++ spell_item i
item-spelled [] i = append-nil (spell_item i)
item-spelled (x ∷ xs) i = ap (λ ks. spell_item x ++ ks) (item-spelled xs i) ∙ sym (append_assoc (spell_item x) (spell_program xs) (spell_item i))

pub all-more : {A : Type 0} (P : A → Type 0) (xs : List A) (x : A) → AllByRecursion P xs → P x → AllByRecursion P (xs ++ x ∷ [])
all-more P [] x v w = (w, tt)
all-more P (y ∷ ys) x v w = (v.0, all-more P ys x v.1 w)

pub item-height : (items : ProgramTree) (i : ItemTree) → height_program (items ++ i ∷ []) ≡ max (height_program items) (height_item i)
item-height [] i = omega arith
item-height (x ∷ xs) i = omega (arith, item-height xs i)

pub item-begun : (items : ProgramTree) (i : ItemTree) (k j : ℕ) → k ≡ length (spell_program items) + j
    → begun_program (items ++ i ∷ []) k ≤ max (height_program items) (begun_item i j)
item-begun [] i k j h = let e : k ≡ j = omega (arith, h) in subst (λ z. max (begun_item i z) 0 ≤ max 0 (begun_item i j)) (sym e) (omega arith)
item-begun (x ∷ xs) i k j h =
    let n = length-append (spell_item x) (spell_program xs) in
    omega (arith, item-most x k, item-begun xs i (k - width_item x) j (omega (arith, h, n)))

-- Declarators.
more-names : (xs : List FileTree) (x : FileTree) → more_listed spell_file (xs ++ x ∷ []) ≡ kind.Sign sign.Comma ∷ (names_before xs ++ spell_file x)
more-names [] x = ap (λ ks. kind.Sign sign.Comma ∷ ks) (append-nil (spell_file x))
more-names (y ∷ ys) x =
    ap (λ ks. kind.Sign sign.Comma ∷ (spell_file y ++ ks)) (more-names ys x)
    ∙ ap (λ ks. kind.Sign sign.Comma ∷ ks) (sym (append_assoc (spell_file y) (kind.Sign sign.Comma ∷ names_before ys) (spell_file x)))

pub name-spelled : (xs : List FileTree) (x : FileTree) → listed spell_file (xs ++ x ∷ []) ≡ names_before xs ++ spell_file x
name-spelled [] x = append-nil (spell_file x)
name-spelled (y ∷ ys) x = ap (λ ks. spell_file y ++ ks) (more-names ys x) ∙ sym (append_assoc (spell_file y) (kind.Sign sign.Comma ∷ names_before ys) (spell_file x))

pub names-more : (xs : List FileTree) (x : FileTree) → names_before (xs ++ x ∷ []) ≡ names_before xs ++ (spell_file x ++ kind.Sign sign.Comma ∷ [])
names-more [] x = refl
names-more (y ∷ ys) x =
    ap (λ ks. spell_file y ++ kind.Sign sign.Comma ∷ ks) (names-more ys x)
    ∙ sym (append_assoc (spell_file y) (kind.Sign sign.Comma ∷ names_before ys) (spell_file x ++ kind.Sign sign.Comma ∷ []))

pub name-height : (xs : List FileTree) (x : FileTree) → height_files (xs ++ x ∷ []) ≡ max (height_files xs) (height_file x)
name-height [] x = omega arith
name-height (y ∷ ys) x = omega (arith, name-height ys x)

pub name-begun : (xs : List FileTree) (x : FileTree) (k j : ℕ) → k ≡ length (names_before xs) + j
    → begun_files (xs ++ x ∷ []) k ≤ max (height_files xs) (begun_file x j)
name-begun [] x k j h = let e : k ≡ j = omega (arith, h) in subst (λ z. max (begun_file x z) 0 ≤ max 0 (begun_file x j)) (sym e) (omega arith)
name-begun (y ∷ ys) x k j h =
    let n = length-append (spell_file y) (kind.Sign sign.Comma ∷ names_before ys) in
    omega (arith, file-most y k, name-begun ys x (k - (width_file y + 1)) j (omega (arith, h, n)))

-- Parameters.
more-params : (xs : List ParamTree) (x : ParamTree) → more_listed spell_param (xs ++ x ∷ []) ≡ kind.Sign sign.Comma ∷ (params_before xs ++ spell_param x)
more-params [] x = ap (λ ks. kind.Sign sign.Comma ∷ ks) (append-nil (spell_param x))
more-params (y ∷ ys) x =
    ap (λ ks. kind.Sign sign.Comma ∷ (spell_param y ++ ks)) (more-params ys x)
    ∙ ap (λ ks. kind.Sign sign.Comma ∷ ks) (sym (append_assoc (spell_param y) (kind.Sign sign.Comma ∷ params_before ys) (spell_param x)))

list-spelled : (xs : List ParamTree) (x : ParamTree) → listed spell_param (xs ++ x ∷ []) ≡ params_before xs ++ spell_param x
list-spelled [] x = append-nil (spell_param x)
list-spelled (y ∷ ys) x = ap (λ ks. spell_param y ++ ks) (more-params ys x) ∙ sym (append_assoc (spell_param y) (kind.Sign sign.Comma ∷ params_before ys) (spell_param x))

pub params-more : (xs : List ParamTree) (x : ParamTree) → params_before (xs ++ x ∷ []) ≡ params_before xs ++ (spell_param x ++ kind.Sign sign.Comma ∷ [])
params-more [] x = refl
params-more (y ∷ ys) x =
    ap (λ ks. spell_param y ++ kind.Sign sign.Comma ∷ ks) (params-more ys x)
    ∙ sym (append_assoc (spell_param y) (kind.Sign sign.Comma ∷ params_before ys) (spell_param x ++ kind.Sign sign.Comma ∷ []))

pub list-height : (xs : List ParamTree) (x : ParamTree) → height_list (xs ++ x ∷ []) ≡ max (height_list xs) (height_param x)
list-height [] x = omega arith
list-height (y ∷ ys) x = omega (arith, list-height ys x)

list-begun : (xs : List ParamTree) (x : ParamTree) (k j : ℕ) → k ≡ length (params_before xs) + j
    → begun_list (xs ++ x ∷ []) k ≤ max (height_list xs) (begun_param x j)
list-begun [] x k j h = let e : k ≡ j = omega (arith, h) in subst (λ z. max (begun_param x z) 0 ≤ max 0 (begun_param x j)) (sym e) (omega arith)
list-begun (y ∷ ys) x k j h =
    let n = length-append (spell_param y) (kind.Sign sign.Comma ∷ params_before ys) in
    omega (arith, param-most y k, list-begun ys x (k - (width_param y + 1)) j (omega (arith, h, n)))

-- `void` alone spells `void`
void-spelled : (s : SpecTree) (i : ℕ) (name : Option (List ℕ)) (ds : DimTrees) → is_void_alone s i name ds ≡ true
    → kind.Word word.Void ∷ [] ≡ spell_spec s ++ (stars i ++ (spell_name name ++ spell_dims ds))
void-spelled (SpecTree.Void f) zero None DimTrees.NoDims h = refl
void-spelled s i name ds h = let e : false ≡ true = h in cc

one-param : (b : Bool) (x : ParamTree) → is_void_alone x.spec x.stars x.name x.dims ≡ b
    → (spell_params (cond b ParamsTree.Void (ParamsTree.Listed (x ∷ []))) ≡ spell_param x)
    × (ValidParam x → ValidParams (cond b ParamsTree.Void (ParamsTree.Listed (x ∷ []))))
    × (height_params (cond b ParamsTree.Void (ParamsTree.Listed (x ∷ []))) ≤ height_param x)
    × ((k : ℕ) → begun_params (cond b ParamsTree.Void (ParamsTree.Listed (x ∷ []))) k ≤ begun_param x k)
one-param true x h = (void-spelled x.spec x.stars x.name x.dims h, λ v. tt, omega arith, λ k. omega arith)
one-param false x h = (append-nil (spell_param x), λ v. (h, v), omega arith, λ k. omega arith)

two-valid : (y : ParamTree) (ys : List ParamTree) (x : ParamTree) → ValidParam y → AllByRecursion ValidParam ys → ValidParam x → ValidList (y ∷ (ys ++ x ∷ []))
two-valid y [] x v w u = (v, u, tt)
two-valid y (z ∷ zs) x v w u = (v, w.0, all-more ValidParam zs x w.1 u)

-- the list of these parameters is a list, where there are two of them
two-params : (y : ParamTree) (ys : List ParamTree) (x : ParamTree) → params_of (y ∷ (ys ++ x ∷ [])) ≡ ParamsTree.Listed (y ∷ (ys ++ x ∷ []))
two-params y [] x = refl
two-params y (z ∷ zs) x = refl

pub params-spelled : (xs : List ParamTree) (x : ParamTree) → spell_params (params_of (xs ++ x ∷ [])) ≡ params_before xs ++ spell_param x
params-spelled [] x = (one-param (is_void_alone x.spec x.stars x.name x.dims) x refl).0
params-spelled (y ∷ ys) x = ap spell_params (two-params y ys x) ∙ list-spelled (y ∷ ys) x

pub params-valid : (xs : List ParamTree) (x : ParamTree) → AllByRecursion ValidParam xs → ValidParam x → ValidParams (params_of (xs ++ x ∷ []))
params-valid [] x v w = (one-param (is_void_alone x.spec x.stars x.name x.dims) x refl).1 w
params-valid (y ∷ ys) x v w = subst ValidParams (sym (two-params y ys x)) (two-valid y ys x v.0 v.1 w)

pub params-height : (xs : List ParamTree) (x : ParamTree) → height_params (params_of (xs ++ x ∷ [])) ≤ max (height_list xs) (height_param x)
params-height [] x = omega (arith, (one-param (is_void_alone x.spec x.stars x.name x.dims) x refl).2)
params-height (y ∷ ys) x = omega (arith, ap height_params (two-params y ys x), list-height (y ∷ ys) x)

pub params-begun : (xs : List ParamTree) (x : ParamTree) (k j : ℕ) → k ≡ length (params_before xs) + j
    → begun_params (params_of (xs ++ x ∷ [])) k ≤ max (height_list xs) (begun_param x j)
params-begun [] x k j h =
    let e : k ≡ j = omega (arith, h) in
    let b : begun_params (params_of (x ∷ [])) k ≤ begun_param x k = (one-param (is_void_alone x.spec x.stars x.name x.dims) x refl).3 k in
    omega (arith, subst (λ z. begun_params (params_of (x ∷ [])) k ≤ begun_param x z) e b)
params-begun (y ∷ ys) x k j h = omega (arith, ap (λ ps. begun_params ps k) (two-params y ys x), list-begun (y ∷ ys) x k j h)

-- Initialisers.
more-inits : (xs : InitTrees) (i : InitTree) → spell_more_inits (add_init xs i) ≡ kind.Sign sign.Comma ∷ (inits_before xs ++ spell_init i)
more-inits InitTrees.NoItems i = ap (λ ks. kind.Sign sign.Comma ∷ ks) (append-nil (spell_init i))
more-inits (InitTrees.Item y ys) i =
    ap (λ ks. kind.Sign sign.Comma ∷ (spell_init y ++ ks)) (more-inits ys i)
    ∙ ap (λ ks. kind.Sign sign.Comma ∷ ks) (sym (append_assoc (spell_init y) (kind.Sign sign.Comma ∷ inits_before ys) (spell_init i)))

pub init-spelled : (xs : InitTrees) (i : InitTree) → spell_inits (add_init xs i) ≡ inits_before xs ++ spell_init i
init-spelled InitTrees.NoItems i = append-nil (spell_init i)
init-spelled (InitTrees.Item y ys) i =
    ap (λ ks. spell_init y ++ ks) (more-inits ys i) ∙ sym (append_assoc (spell_init y) (kind.Sign sign.Comma ∷ inits_before ys) (spell_init i))

pub inits-more : (xs : InitTrees) (i : InitTree) → inits_before (add_init xs i) ≡ inits_before xs ++ (spell_init i ++ kind.Sign sign.Comma ∷ [])
inits-more InitTrees.NoItems i = refl
inits-more (InitTrees.Item y ys) i =
    ap (λ ks. spell_init y ++ kind.Sign sign.Comma ∷ ks) (inits-more ys i)
    ∙ sym (append_assoc (spell_init y) (kind.Sign sign.Comma ∷ inits_before ys) (spell_init i ++ kind.Sign sign.Comma ∷ []))

-- a list that isn't empty, with its last comma
last-comma : (y : InitTree) (ys : InitTrees) → inits_before (InitTrees.Item y ys) ≡ spell_inits (InitTrees.Item y ys) ++ kind.Sign sign.Comma ∷ []
last-comma y InitTrees.NoItems = sym (append_assoc (spell_init y) [] (kind.Sign sign.Comma ∷ []))
last-comma y (InitTrees.Item z zs) =
    ap (λ ks. spell_init y ++ kind.Sign sign.Comma ∷ ks) (last-comma z zs)
    ∙ sym (append_assoc (spell_init y) (spell_more_inits (InitTrees.Item z zs)) (kind.Sign sign.Comma ∷ []))

pub comma-spelled : (xs : InitTrees) → has_items xs ≡ true → inits_before xs ≡ spell_inits xs ++ kind.Sign sign.Comma ∷ []
comma-spelled InitTrees.NoItems h = let e : false ≡ true = h in cc
comma-spelled (InitTrees.Item y ys) h = last-comma y ys

pub init-valid : (xs : InitTrees) (i : InitTree) → ValidInits xs → ValidInit i → ValidInits (add_init xs i)
init-valid InitTrees.NoItems i v w = (w, tt)
init-valid (InitTrees.Item y ys) i v w = (v.0, init-valid ys i v.1 w)

pub init-some : (xs : InitTrees) (i : InitTree) → HasItem (add_init xs i)
init-some InitTrees.NoItems i = tt
init-some (InitTrees.Item y ys) i = tt

pub some-items : (xs : InitTrees) → has_items xs ≡ true → HasItem xs
some-items InitTrees.NoItems h = let e : false ≡ true = h in cc
some-items (InitTrees.Item y ys) h = tt

pub init-height : (xs : InitTrees) (i : InitTree) → height_inits (add_init xs i) ≡ max (height_inits xs) (height_init i)
init-height InitTrees.NoItems i = omega arith
init-height (InitTrees.Item y ys) i = omega (arith, init-height ys i)

pub init-begun : (xs : InitTrees) (i : InitTree) (k j : ℕ) → k ≡ length (inits_before xs) + j
    → begun_inits (add_init xs i) k ≤ max (height_inits xs) (begun_init i j)
init-begun InitTrees.NoItems i k j h = let e : k ≡ j = omega (arith, h) in subst (λ z. max (begun_init i z) 0 ≤ max 0 (begun_init i j)) (sym e) (omega arith)
init-begun (InitTrees.Item y ys) i k j h =
    let n = length-append (spell_init y) (kind.Sign sign.Comma ∷ inits_before ys) in
    omega (arith, init-most y k, init-begun ys i (k - (width_init y + 1)) j (omega (arith, h, n)))

-- Array brackets, of which the first may have no length.
pub open-valid : (ds : DimTrees) (e : ExprTree) → ValidOpenDims ds → IsOf 2 e → ValidOpenDims (add_dim ds e)
open-valid DimTrees.NoDims e v w = (w.0, w.1, tt)
open-valid (DimTrees.Unsized ds) e v w = dims-valid ds e v w
open-valid (DimTrees.Sized x ds) e v w = (v.0, v.1, dims-valid ds e v.2 w)

pub dim-begun : (ds : DimTrees) (e : ExprTree) (k j : ℕ) → k ≡ width_dims ds + 1 + j
    → begun_dims (add_dim ds e) k ≤ max (height_dims ds) (count ds + (1 + begun e j))
dim-begun DimTrees.NoDims e k j h =
    let i : k - 1 ≡ j = omega (arith, h) in
    omega (arith, node-most k (max (begun e (k - 1)) 0), ap (λ z. begun e z) i)
dim-begun (DimTrees.Unsized ds) e k j h =
    omega (arith, node-most k (begun_dims (add_dim ds e) (k - 2)), dim-begun ds e (k - 2) j (omega (arith, h)))
dim-begun (DimTrees.Sized x ds) e k j h =
    let n = length-append (spell x) (kind.Sign sign.CloseBracket ∷ spell_dims ds) in
    omega (
      arith,
      node-most k (max (begun x (k - 1)) (begun_dims (add_dim ds e) (k - (width x + 2)))),
      most x (k - 1),
      dim-begun ds e (k - (width x + 2)) j (omega (arith, h, n)),
    )
