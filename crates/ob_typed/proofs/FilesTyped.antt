-- Items of a program (C99 6.9): what each adds to what is declared, and that the functions that it adds are well typed.
use Rattle.std.proofs.Common.{◌≡◌, ℕ, Bool, true, false, Option, Some, None, Ok, Err, List, [], ◌∷◌, ◌++◌, length, take, refl, sym, ap, ◌∙◌, subst}
use Rattle.std.specs.List.{AllByRecursion}
use Rattle.std.specs.Prelude.{nat_eq}
use Rattle.std.proofs.lemmas.Bool.{eq-eqb, true≢false}
use Rattle.std.proofs.lemmas.List.{append-nil, append_assoc, length-map}
use Rattle.ob_tree.specs.Programs.{FileTree, ParamsTree, ProgramTree, StmtTree}
use Rattle.ob_tree.specs.Programs.{FileTree as file, ItemTree as item, StmtTree as source}
use Rattle.ob_tree.specs.ProgramValid.{ValidBlock, ValidFile, ValidFiles, ValidItem, ValidParams, ValidStmt}
use Rattle.ob_tree.specs.Trees.{SpecTree}
use Rattle.ob_tree.specs.Types.{PlainType}
use Rattle.ob_tree.specs.Valid.{ValidSpec}
use Rattle.ob_typed.specs.Counts.{nodes_of_function}
use Rattle.ob_typed.specs.Declarations.{Body, check_static}
use Rattle.ob_typed.specs.Expressions.{check_spec}
use Rattle.ob_typed.specs.Faults.{Walk, no_place, then_rule}
use Rattle.ob_typed.specs.Functions.{Parameter, function_rule, parameter_types}
use Rattle.ob_typed.specs.Scopes.{Declared, Known, find, is_at}
use Rattle.ob_typed.specs.Specifiers.{pointers}
use Rattle.ob_typed.specs.Statements.{check_block, stmt_list}
use Rattle.ob_typed.specs.Typing.{File, Head, body_env, body_items, body_names, body_of, check_all, check_file, check_files, check_function, check_head, check_item, file_base, file_env, function_names, function_of, head_known, knowing, library_known, with_function_of, with_head, with_object}
use Rattle.ob_typed.specs.TypedTree.{TypedFunction, TypedStmt}
use Rattle.ob_typed.specs.TypedTree.{TypedStmt as stmt}
use Rattle.ob_typed.specs.WellTyped.{AreScalars, AreTypedFunctions, Around, IsTypedFunction}
use Rattle.ob_typed.proofs.BodyWalks.{BodyGives, BodyMoves, body_map, front_kept, keeps_same}
use Rattle.ob_typed.proofs.DeclarationsTyped.{IsFresh, alone_gives, placed_first, static_gives, static_says}
use Rattle.ob_typed.proofs.ExpressionsTyped.{IsRightEnv, spec_gives}
use Rattle.ob_typed.proofs.FunctionsTyped.{AreRight, AreTop, Extended, HaveScalars, IsDeclared, IsOwn, declared_extends, declared_open, declared_own, declared_top, extends_new, function_fine, params_give, params_say, right_before, top_first, with_right}
use Rattle.ob_typed.proofs.GrowingStructs.{AreSound}
use Rattle.ob_typed.proofs.LocalsTyped.{AreStmts, list_typed}
use Rattle.ob_typed.proofs.StatementsTyped.{block_gives}
use Rattle.ob_typed.proofs.Walks.{Any, Fine, Gives, Leads, Moves, Says, fine_any, fine_map, fine_then, gives_by, gives_next, gives_ok, leads_before, moves_left, moves_more, moves_same, says_any, says_next, says_ok, says_rule}

-- ---- what an item adds

-- the declarations at file scope, while no function is said to have a body
pub record IsOpen (numbered : List (List ℕ)) (ds : List Declared) : Type 0 where
  pub right : (c : Around) → AreRight c numbered [] ds
  pub top : AreTop ds

-- each function with a body is declared as it is
abbrev pub AreOwn : List Declared → List TypedFunction → Type 0
AreOwn ds [] = Unit {0}
AreOwn ds (f ∷ fs) = IsOwn (find f.name ds) f.result (take f.params f.locals) × AreOwn ds fs

-- where everything leads to the program, whose declarations at file scope are D, the functions are well typed
abbrev pub AreWellTyped : (numbered : List (List ℕ)) → (f g : File) → Type 0
AreWellTyped numbered f g =
    (c : Around) (D : List Declared) →
    AreRight c numbered numbered D →
    Extended g.declared D →
    AreSound f.known.structs →
    Leads c numbered g.known →
    AreTypedFunctions c f.functions →
    AreTypedFunctions c g.functions

pub record Adds (numbered added : List (List ℕ)) (f g : File) : Type 0 where
  pub known : Moves f.known g.known
  pub extends : Extended f.declared g.declared
  pub names : function_names g.functions ≡ function_names f.functions ++ added
  pub opens : IsOpen numbered g.declared
  pub own : AreOwn f.declared f.functions → AreOwn g.declared g.functions
  pub typed : AreWellTyped numbered f g

-- nothing but what is known
known_adds : (numbered : List (List ℕ)) (f : File) (k : Known) → IsOpen numbered f.declared → Moves f.known k → Adds numbered [] f (knowing f k)
known_adds numbered f k opens moves =
    record {
      known = moves;
      extends = λ name d is. is;
      names = sym (append-nil (function_names f.functions));
      opens = opens;
      own = λ h. h;
      typed = λ c D right more sound leads h. h;
    }

pub adds_more : (numbered a b : List (List ℕ)) (f g h : File) → Adds numbered a f g → Adds numbered b g h → Adds numbered (a ++ b) f h
adds_more numbered a b f g h first second =
    record {
      known = moves_more f.known g.known h.known first.known second.known;
      extends = λ name d is. second.extends name d (first.extends name d is);
      names = second.names ∙ ap (λ xs. xs ++ b) first.names ∙ append_assoc (function_names f.functions) a b;
      opens = second.opens;
      own = λ own. second.own (first.own own);
      typed = λ c D right more sound leads typed.
          second.typed c D right more (first.known.sound sound) leads
          (first.typed c D right (λ name d is. more name d (second.extends name d is)) sound (leads_before c numbered g.known h.known second.known leads) typed);
    }

own_extends : (ds es : List Declared) → Extended ds es → (fs : List TypedFunction) → AreOwn ds fs → AreOwn es fs
own_extends ds es more [] h = tt
own_extends ds es more (f ∷ fs) h = (of_found (find f.name ds) refl h.0, own_extends ds es more fs h.1)
  where
    of_found : (o : Option Declared) → find f.name ds ≡ o → IsOwn o f.result (take f.params f.locals) → IsOwn (find f.name es) f.result (take f.params f.locals)
    of_found None is own = absurd own
    of_found (Some d) is own = subst (λ o. IsOwn o f.result (take f.params f.locals)) (sym (more f.name d is)) own

-- ---- walks at file scope

abbrev nowhere : Around
nowhere = record { structs = []; functions = [] }

open_env : (numbered : List (List ℕ)) (ds : List Declared) → IsOpen numbered ds → (c : Around) → IsRightEnv c [] (file_env numbered ds)
open_env numbered ds opens c = record { means = opens.right c }

abbrev pub Moved : {A : Type 0} → (U : A → Type 0) → Known → A × Known → Type 0
Moved U k r = Moves k r.1 × U r.0

moved_fine : {A : Type 0} (P U : A → Type 0) (k : Known) (w : Walk Known A) → Gives nowhere [] P k w → Says U w → Fine (Moved U k) w
moved_fine P U k (Ok r) h s = (h.each.0, s.said)
moved_fine P U k (Err f) h s = tt

-- ---- function declarators

-- what a function declarator declares
abbrev HasHead : List Declared → (body : Bool) → (name : List ℕ) → Head → Type 0
HasHead ds body name h =
    HaveScalars h.params × IsDeclared ds body name h.result (parameter_types h.params) h.declared

head_says : (numbered : List (List ℕ)) (f : File) (body : Bool) (name : List ℕ) (at : ℕ) (t : PlainType) (ps : ParamsTree) (k : Known) → Says (HasHead f.declared body name) (check_head numbered f body name at t ps k)
head_says numbered f body name at t ps k =
    says_next (params_say (file_env numbered f.declared) ps k) (λ qs k1 scalars.
    says_rule (function_rule f.declared (function_names f.functions) body name at t (parameter_types qs)) k1 (function_fine f.declared (function_names f.functions) body name at t (parameter_types qs)) (λ ds k2 h.
    says_ok {a = record { result = t; params = qs; declared = ds }} {s = k2} (scalars, h)))

head_fine : (numbered : List (List ℕ)) (f : File) → IsOpen numbered f.declared → (body : Bool) (name : List ℕ) (at : ℕ) (t : PlainType) (ps : ParamsTree) → ValidParams ps → (k : Known) → Fine (Moved (HasHead f.declared body name) k) (check_head numbered f body name at t ps k)
head_fine numbered f opens body name at t ps v k =
    moved_fine Any (HasHead f.declared body name) k (check_head numbered f body name at t ps k)
    (gives_next nowhere [] (params_give nowhere [] (file_env numbered f.declared) (open_env numbered f.declared opens nowhere) ps v k) (λ qs k1.
    gives_next nowhere [] {P = Any} (gives_by nowhere [] (function_rule f.declared (function_names f.functions) body name at t (parameter_types qs)) (λ sound leads. fine_any (function_rule f.declared (function_names f.functions) body name at t (parameter_types qs)))) (λ ds k2.
    gives_ok nowhere [] (λ any other. tt))))
    (head_says numbered f body name at t ps k)

spec_fine : (numbered : List (List ℕ)) (ds : List Declared) → IsOpen numbered ds → (s : SpecTree) → ValidSpec s → (k : Known) → Fine (Moved {A = PlainType} Any k) (check_spec (file_env numbered ds) s k)
spec_fine numbered ds opens s v k =
    moved_fine Any Any k (check_spec (file_env numbered ds) s k) (spec_gives nowhere [] (file_env numbered ds) (open_env numbered ds opens nowhere) s v k) (says_any (check_spec (file_env numbered ds) s k))

open_head : (numbered : List (List ℕ)) (ds : List Declared) (body : Bool) (name : List ℕ) (result : PlainType) (ps : List PlainType) (es : List Declared) → IsDeclared ds body name result ps es → IsOpen numbered ds → IsOpen numbered es
open_head numbered ds body name result ps es h opens =
    record {
      right = λ c. declared_open ds body name result ps c numbered es h (opens.right c);
      top = declared_top ds body name result ps es h opens.top;
    }

-- a function without a body is declared
with_head_fine : (numbered : List (List ℕ)) (f : File) (name : List ℕ) (k : Known) (w : Walk Known Head) → IsOpen numbered f.declared → Moves f.known k → Fine (Moved (HasHead f.declared false name) k) w → Fine (Adds numbered [] f) (with_head f f.known w)
with_head_fine numbered f name k (Err e) opens moves h = tt
with_head_fine numbered f name k (Ok r) opens moves h =
    let more = declared_extends f.declared false name r.0.result (parameter_types r.0.params) r.0.declared h.1.1 in
    record {
      known = moves_left f.known f.known r.1 (moves_more f.known k r.1 moves h.0);
      extends = more;
      names = sym (append-nil (function_names f.functions));
      opens = open_head numbered f.declared false name r.0.result (parameter_types r.0.params) r.0.declared h.1.1 opens;
      own = own_extends f.declared r.0.declared more f.functions;
      typed = λ c D right ext sound leads typed. typed;
    }

-- ---- functions with a body

names_last : (fs : List TypedFunction) (f : TypedFunction) → function_names (fs ++ f ∷ []) ≡ function_names fs ++ f.name ∷ []
names_last [] f = refl
names_last (g ∷ fs) f = ap (λ xs. g.name ∷ xs) (names_last fs f)

own_last : (ds : List Declared) (fs : List TypedFunction) (f : TypedFunction) → AreOwn ds fs → IsOwn (find f.name ds) f.result (take f.params f.locals) → AreOwn ds (fs ++ f ∷ [])
own_last ds [] f h own = (own, tt)
own_last ds (g ∷ fs) f h own = (h.0, own_last ds fs f h.1 own)

typed_last : (c : Around) (fs : List TypedFunction) (f : TypedFunction) → AreTypedFunctions c fs → IsTypedFunction c f → AreTypedFunctions c (fs ++ f ∷ [])
typed_last c [] f h one = (one, tt)
typed_last c (g ∷ fs) f h one = (h.0, typed_last c fs f h.1 one)

-- the parameters are the first objects of a function
first_objects : (h : Head) (k : Known) (b : Body) → BodyMoves (body_of h k) b → take (length h.params) b.locals ≡ parameter_types h.params
first_objects h k b moves =
    ap (λ n. take n b.locals) (sym (length-map h.params (λ (p : Parameter). p.ty)))
    ∙ front_kept (parameter_types h.params) b.locals moves.locals.each

module _ (numbered : List (List ℕ)) (f : File) (name : List ℕ) (h : Head) (nodes : ℕ) (before k : Known) where
  abbrev IsBody : (c : Around) → (bodies : List (List ℕ)) → Walk Body (List TypedStmt) → Type 0
  IsBody c bodies w = (locals : List PlainType) → BodyGives c bodies locals (AreStmts c h.result locals) (body_of h k) w

  function_adds : (w : Walk Body (List TypedStmt)) → IsOpen numbered f.declared → Moves f.known k → HaveScalars h.params → IsDeclared f.declared true name h.result (parameter_types h.params) h.declared → IsBody nowhere [] w → ((c : Around) → AreRight c numbered numbered h.declared → IsBody c numbered w) → Fine (Adds numbered (name ∷ []) f) (with_function_of f before name h nodes w)
  function_adds (Err e) opens moves scalars declared moved each = tt
  function_adds (Ok r) opens moves scalars declared moved each =
      let more = declared_extends f.declared true name h.result (parameter_types h.params) h.declared declared in
      let own = declared_own f.declared name h.result (parameter_types h.params) h.declared declared in
      let body = (moved r.1.locals).each.0 in
      let objects = first_objects h k r.1 body in
      let made : TypedFunction = function_of name h nodes r.1 (stmt.Block (stmt_list r.0)) in
      record {
        known = moves_left f.known before r.1.known (moves_more f.known k r.1.known moves body.known);
        extends = more;
        names = names_last f.functions made;
        opens = open_head numbered f.declared true name h.result (parameter_types h.params) h.declared declared opens;
        own = λ owned. own_last h.declared f.functions made (own_extends f.declared h.declared more f.functions owned)
            (subst (IsOwn (find name h.declared) h.result) (sym objects) own);
        typed = λ c D right ext sound leads typed.
            let here = right_before c numbered numbered h.declared D ext right in
            let statements = (each c here r.1.locals).each.1 (moves.sound sound) (record {
              known = record { grows = leads.grows; called = leads.called };
              kept = keeps_same r.1.locals;
            }) in
            typed_last c f.functions made typed (subst AreScalars (sym objects) scalars, list_typed c h.result r.1.locals r.0 statements);
      }

-- the body's outermost block
valid_body : (s : StmtTree) → ValidStmt s → ValidBlock (body_items s)
valid_body (source.Block first line is) v = v
valid_body s v = (v, tt)

body_right : (c : Around) (numbered bodies : List (List ℕ)) (h : Head) → HaveScalars h.params → AreRight c numbered bodies h.declared → IsRightEnv c bodies (body_env numbered h)
body_right c numbered bodies h scalars right = record { means = with_right c numbered bodies 1 0 h.declared h.params scalars right }

function_item : (numbered : List (List ℕ)) (f : File) → IsOpen numbered f.declared → (s : SpecTree) → ValidSpec s → (stars : ℕ) (name : List ℕ) (at : ℕ) (ps : ParamsTree) → ValidParams ps → (body : StmtTree) → ValidStmt body → Fine (Adds numbered (name ∷ []) f) (check_function numbered f s stars name at ps body)
function_item numbered f opens s v stars name at ps vs body vb =
    fine_then (Moved Any f.known) (Adds numbered (name ∷ []) f) (check_spec (file_env numbered f.declared) s f.known) _ (spec_fine numbered f.declared opens s v f.known) (λ t moved.
    fine_then (Moved (HasHead f.declared true name) t.1) (Adds numbered (name ∷ []) f) (check_head numbered f true name at (pointers stars t.0) ps t.1) _ (head_fine numbered f opens true name at (pointers stars t.0) ps vs t.1) (λ h head.
    let scalars = head.1.0 in
    let opened = open_head numbered f.declared true name h.0.result (parameter_types h.0.params) h.0.declared head.1.1 opens in
    function_adds numbered f name h.0 (nodes_of_function s ps body) t.1 h.1
    (check_block (body_env numbered h.0) false h.0.result [] (body_items body) (body_of h.0 h.1))
    opens (moves_more f.known t.1 h.1 moved.0 head.0) scalars head.1.1
    (λ locals. body_map nowhere [] locals (λ ss all. all tt) (block_gives nowhere [] h.0.result locals (body_env numbered h.0) (body_right nowhere numbered [] h.0 scalars (opened.right nowhere)) false [] (body_items body) (valid_body body vb) (body_of h.0 h.1)))
    (λ c right locals. body_map c numbered locals (λ ss all. all tt) (block_gives c numbered h.0.result locals (body_env numbered h.0) (body_right c numbered numbered h.0 scalars right) false [] (body_items body) (valid_body body vb) (body_of h.0 h.1)))))

-- ---- declarations

object_adds : (numbered : List (List ℕ)) (f : File) (w : Walk Known Declared) → IsOpen numbered f.declared → Gives nowhere [] {A = Declared} Any f.known w → ((c : Around) → Says (IsFresh c (file_env numbered f.declared)) w) → Fine (Adds numbered [] f) (with_object f w)
object_adds numbered f (Err e) opens gives says = tt
object_adds numbered f (Ok r) opens gives says =
    let fresh = (says nowhere).said in
    let more = extends_new f.declared r.0 (none_at (find r.0.name f.declared) refl fresh.2) in
    record {
      known = gives.each.0;
      extends = more;
      names = sym (append-nil (function_names f.functions));
      opens = record {
        right = λ c. placed_first c numbered [] f.declared r.0 (says c).said.0 (opens.right c);
        top = top_first f.declared r.0 fresh.1 opens.top;
      };
      own = own_extends f.declared (r.0 ∷ f.declared) more f.functions;
      typed = λ c D right ext sound leads typed. typed;
    }
  where
    none_at : (o : Option Declared) → find r.0.name f.declared ≡ o → is_at 0 (find r.0.name f.declared) ≡ false → find r.0.name f.declared ≡ None
    none_at None is new = is
    none_at (Some d) is new =
        let deep : nat_eq d.depth 0 ≡ true = eq-eqb d.depth 0 (opens.top r.0.name d is) in
        absurd (true≢false (sym deep ∙ sym (ap (is_at 0) is) ∙ new))

file_adds : (numbered : List (List ℕ)) (line : ℕ) (t : PlainType) (d : FileTree) → ValidFile d → (f : File) → IsOpen numbered f.declared → Fine (Adds numbered [] f) (check_file numbered line t d f)
file_adds numbered line t (file.Function stars name at ps) v f opens =
    with_head_fine numbered f name f.known (check_head numbered f false name at (pointers stars t) ps f.known) opens (moves_same f.known) (head_fine numbered f opens false name at (pointers stars t) ps v.1 f.known)
file_adds numbered line t (file.Object o) v f opens =
    object_adds numbered f (check_static (file_env numbered f.declared) line t o f.known) opens
    (static_gives nowhere [] (file_env numbered f.declared) (open_env numbered f.declared opens nowhere) line t o v f.known)
    (λ c. static_says c (file_env numbered f.declared) line t o f.known)

files_add : (numbered : List (List ℕ)) (line : ℕ) (t : PlainType) (ds : List FileTree) → AllByRecursion ValidFile ds → (f : File) → IsOpen numbered f.declared → Fine (Adds numbered [] f) (check_files numbered line t ds f)
files_add numbered line t [] v f opens = known_adds numbered f f.known opens (moves_same f.known)
files_add numbered line t (d ∷ ds) v f opens =
    fine_then (Adds numbered [] f) (Adds numbered [] f) (check_file numbered line t d f) _ (file_adds numbered line t d v.0 f opens) (λ g first.
    fine_map (Adds numbered [] g) (Adds numbered [] f) (check_files numbered line t ds g) (λ h second. adds_more numbered [] [] f g h first second)
    (files_add numbered line t ds v.1 g first.opens))

valid_files : (s : SpecTree) (ds : List FileTree) → ValidFiles s ds → AllByRecursion ValidFile ds
valid_files s [] v = tt
valid_files s (d ∷ ds) v = (v.0, v.1)

base_fine : (numbered : List (List ℕ)) (es : List Declared) → IsOpen numbered es → (s : SpecTree) → ValidSpec s → (ds : List FileTree) (k : Known) → Fine (Moved {A = PlainType} Any k) (file_base (file_env numbered es) s ds k)
base_fine numbered es opens s v [] k =
    moved_fine Any Any k (file_base (file_env numbered es) s [] k) (alone_gives nowhere [] (file_env numbered es) (open_env numbered es opens nowhere) s v k) (says_any (file_base (file_env numbered es) s [] k))
base_fine numbered es opens s v (d ∷ ds) k = spec_fine numbered es opens s v k

decls_add : (numbered : List (List ℕ)) (line : ℕ) (s : SpecTree) → ValidSpec s → (ds : List FileTree) → ValidFiles s ds → (f : File) → IsOpen numbered f.declared → Fine (Adds numbered [] f) (then_rule (file_base (file_env numbered f.declared) s ds f.known) (λ t. check_files numbered line t.0 ds (knowing f t.1)))
decls_add numbered line s v ds vs f opens =
    fine_then (Moved Any f.known) (Adds numbered [] f) (file_base (file_env numbered f.declared) s ds f.known) _ (base_fine numbered f.declared opens s v ds f.known) (λ t moved.
    fine_map (Adds numbered [] (knowing f t.1)) (Adds numbered [] f) (check_files numbered line t.0 ds (knowing f t.1)) (λ h second. adds_more numbered [] [] f (knowing f t.1) h (known_adds numbered f t.1 opens moved.0) second)
    (files_add numbered line t.0 ds (valid_files s ds vs) (knowing f t.1) opens))

-- ---- items

pub all_add : (numbered : List (List ℕ)) (p : ProgramTree) → AllByRecursion ValidItem p → (f : File) → IsOpen numbered f.declared → Fine (Adds numbered (body_names p) f) (check_all numbered p f)
all_add numbered [] v f opens = known_adds numbered f f.known opens (moves_same f.known)
all_add numbered (item.Function first line fixed s stars name at ps body ∷ is) v f opens =
    fine_then (Adds numbered (name ∷ []) f) (Adds numbered (name ∷ body_names is) f) (check_function numbered f s stars name at ps body) _ (function_item numbered f opens s v.0.0 stars name at ps v.0.2 body v.0.5) (λ g first.
    fine_map (Adds numbered (body_names is) g) (Adds numbered (name ∷ body_names is) f) (check_all numbered is g) (λ h second. adds_more numbered (name ∷ []) (body_names is) f g h first second)
    (all_add numbered is v.1 g first.opens))
all_add numbered (item.Decls first line fixed s ds ∷ is) v f opens =
    fine_then (Adds numbered [] f) (Adds numbered (body_names is) f) (check_item numbered (item.Decls first line fixed s ds) f) _ (decls_add numbered line s v.0.0 ds v.0.1 f opens) (λ g first_adds.
    fine_map (Adds numbered (body_names is) g) (Adds numbered (body_names is) f) (check_all numbered is g) (λ h second. adds_more numbered [] (body_names is) f g h first_adds second)
    (all_add numbered is v.1 g first_adds.opens))

-- library functions are declared before the first line
head_adds : (library : Bool) (numbered : List (List ℕ)) (s : SpecTree) → ValidSpec s → (stars : ℕ) (name : List ℕ) (at : ℕ) (ps : ParamsTree) → ValidParams ps → (f : File) → IsOpen numbered f.declared → Fine (Adds numbered [] f) (head_known library numbered s stars name at ps f)
head_adds false numbered s v stars name at ps vs f opens = known_adds numbered f f.known opens (moves_same f.known)
head_adds true numbered s v stars name at ps vs f opens =
    fine_then (Moved Any f.known) (Adds numbered [] f) (check_spec (file_env numbered f.declared) s f.known) _ (spec_fine numbered f.declared opens s v f.known) (λ t moved.
    with_head_fine numbered f name t.1 (check_head numbered f false name at (pointers stars t.0) ps t.1) opens moved.0 (head_fine numbered f opens false name at (pointers stars t.0) ps vs t.1))

pub library_adds : (numbered : List (List ℕ)) (p : ProgramTree) → AllByRecursion ValidItem p → (f : File) → IsOpen numbered f.declared → Fine (Adds numbered [] f) (library_known numbered p f)
library_adds numbered [] v f opens = known_adds numbered f f.known opens (moves_same f.known)
library_adds numbered (item.Function first line fixed s stars name at ps body ∷ is) v f opens =
    fine_then (Adds numbered [] f) (Adds numbered [] f) (head_known (nat_eq first no_place) numbered s stars name at ps f) _ (head_adds (nat_eq first no_place) numbered s v.0.0 stars name at ps v.0.2 f opens) (λ g first_adds.
    fine_map (Adds numbered [] g) (Adds numbered [] f) (library_known numbered is g) (λ h second. adds_more numbered [] [] f g h first_adds second)
    (library_adds numbered is v.1 g first_adds.opens))
library_adds numbered (item.Decls first line fixed s ds ∷ is) v f opens = library_adds numbered is v.1 f opens
