-- The objects of a call, made row by row.
use Rattle.std.proofs.Common.{◌≡◌, ℕ, ◌+◌, ◌<◌, ◌≤◌, false, List, length, get_or, take, arith, sym, ap, ◌∙◌, subst}
use Rattle.std.specs.List.{All}
use Rattle.std.proofs.lemmas.List.{take_all, take_more}
use Rattle.ob_model.specs.Entries.{Known, with_live}
use Rattle.ob_code.specs.declared.image.FunctionRow.{FunctionRow}
use Rattle.ob_code.specs.declared.image.LocalRow.{LocalRow}
use Rattle.ob_code.specs.Frames.{frame_length, local_entry, with_locals}
use Rattle.ob_code.specs.Rules.{IsFrameSound, local_at}
use Rattle.ob_code.specs.Layout.{no_local}
use Rattle.ob_standing.specs.Laws.{IsGivenOut}
use Rattle.ob_lifetimes.specs.Living.{LiesOutside, Living}
use Rattle.ob_lifetimes.specs.Kept.{IsBeside}
use Rattle.ob_lifetimes.proofs.Frames.{beside_all, beside_row, with_locals-push}
use Rattle.ob_lifetimes.proofs.Tables.{All-with_known}

-- the objects of the first i rows are made
abbrev pub with_rows : ℕ → ℕ → List LocalRow → ℕ → Living → Living
with_rows base first rows i old =
    record old { entries = with_locals base first (take i rows) old.entries; locals = old.locals + i }

-- and those of the others may be
pub record IsEntering (base first : ℕ) (f : FunctionRow) (i : ℕ) (old new : Living) : Type 0 where
  pub objects : new ≡ with_rows base first f.locals i old
  pub room : (j : ℕ) → i ≤ j → j < length f.locals → All (IsBeside base first (local_at f j)) new.entries

abbrev pub one_more : ℕ → ℕ → LocalRow → Living → Living
one_more base first r old = record old { entries = with_live (local_entry base first r) old.entries; locals = old.locals + 1 }

pub IsEntering-none : (base first : ℕ) (f : FunctionRow) (old : Living) → IsFrameSound f → All (LiesOutside base (base + frame_length f)) old.entries → All (IsGivenOut first) old.entries → IsEntering base first f 0 old old
IsEntering-none base first f old sound outside given =
    let none : old.locals ≡ old.locals + 0 = omega arith in
    record {
      objects = ap (λ n. record old { locals = n }) none;
      room = λ j from below. beside_all f sound base j old.entries first below outside given;
    }

rows_more : (base first : ℕ) (rows : List LocalRow) (i : ℕ) (old : Living) → i < length rows → one_more base first (get_or rows i no_local) (with_rows base first rows i old) ≡ with_rows base first rows (i + 1) old
rows_more base first rows i old below =
    let counted : old.locals + i + 1 ≡ old.locals + (i + 1) = omega arith in
    let made : with_live (local_entry base first (get_or rows i no_local)) (with_locals base first (take i rows) old.entries) ≡ with_locals base first (take (i + 1) rows) old.entries =
    sym (with_locals-push base first (get_or rows i no_local) (take i rows) old.entries) ∙ sym (ap (λ (rs : List LocalRow). with_locals base first rs old.entries) (take_more rows i no_local below)) in
    ap (λ (ks : List Known). record old { entries = ks; locals = old.locals + i + 1 }) made
    ∙ ap (λ n. record old { entries = with_locals base first (take (i + 1) rows) old.entries; locals = n }) counted

pub IsEntering-more : (base first : ℕ) (f : FunctionRow) (i : ℕ) (old new newer : Living) → IsFrameSound f → i < length f.locals → IsEntering base first f i old new → newer ≡ one_more base first (local_at f i) new → IsEntering base first f (i + 1) old newer
IsEntering-more base first f i old new newer sound below entering made =
    record {
      objects = made ∙ ap (one_more base first (local_at f i)) entering.objects ∙ rows_more base first f.locals i old below;
      room = λ j from within.
          subst (λ (l : Living). All (IsBeside base first (local_at f j)) l.entries) (sym made)
          (All-with_known (IsBeside base first (local_at f j)) (record { entry = local_entry base first (local_at f i); freed = false }) new.entries
          (beside_row f sound base first i j (omega arith) within) (entering.room j (omega arith) within));
    }

pub entered_all : (base first : ℕ) (f : FunctionRow) (i : ℕ) (old new : Living) → length f.locals ≤ i → i ≤ length f.locals → IsEntering base first f i old new → new ≡ record old { entries = with_locals base first f.locals old.entries; locals = old.locals + length f.locals }
entered_all base first f i old new past within entering =
    let all : i ≡ length f.locals = omega arith in
    entering.objects
    ∙ ap (λ (rs : List LocalRow). record old { entries = with_locals base first rs old.entries; locals = old.locals + i }) (take_all i f.locals past)
    ∙ ap (λ n. record old { entries = with_locals base first f.locals old.entries; locals = old.locals + n }) all
