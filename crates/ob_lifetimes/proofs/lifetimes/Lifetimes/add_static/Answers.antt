use Rattle.std.proofs.Common.{ℕ, ◌+◌, ◌<◌, false, List, arith, refl, sym, ap, ◌∙◌, subst, inr}
use Rattle.std.specs.List.{All}
use Rattle.std.proofs.lemmas.List.Elements.{All-map, All-weaker}
use Rattle.ob_model.specs.declared.objects.Entry.{Entry}
use Rattle.ob_model.specs.declared.objects.Sort.TheVariants.{Static}
use Rattle.ob_model.specs.Entries.{Known, with_live}
use Rattle.ob_model.specs.Heap.{Allocated}
use Rattle.ob_objects.specs.Objects.{AreApart}
use Rattle.ob_pointers.specs.Pointing.{Pointing}
use Rattle.ob_standing.specs.Laws.{IsGivenOut}
use Rattle.ob_lifetimes.specs.Living.{Living}
use Rattle.ob_lifetimes.specs.Kept.{IsPlacedKnown, living_in}
use Rattle.ob_lifetimes.proofs.Heaps.{blocks-elsewhere}
use Rattle.ob_lifetimes.proofs.Keeping.{kept_elsewhere}
use Rattle.ob_lifetimes.proofs.Rooms.{room_elsewhere}
use Rattle.ob_lifetimes.proofs.lifetimes.Lifetimes.add_static.Goals as goal

pub insert-requires-clause-room : goal.insert-requires-clause-room
insert-requires-clause-room c =
    let i = c.self.inside in
    let k = c.self.invariant in
    let few : i.statics < i.most_statics = subst (λ (l : Living). l.statics < l.most_statics) (sym c.self.view_is) c.requires.few in
    let most = room_elsewhere i.shelf.heap i.pointers.entries c.stands.ensures.in_order k.places in
    omega (arith, few, most, k.most, k.count, k.few_locals)

pub insert-requires-clause-apart : goal.insert-requires-clause-apart
insert-requires-clause-apart c =
    let i = c.self.inside in
    let e : Entry = record { base = c.args.base; size = c.args.size; object = i.next; sort = Static } in
    let Behind : Known → Type 0 = λ k. k.entry.base + k.entry.size < c.args.base in
    let behind : All Behind i.pointers.entries = subst (λ (l : Living). All Behind l.entries) (sym c.self.view_is) c.requires.behind in
    All-map (AreApart e) (λ (k : Known). k.entry) i.pointers.entries
    (All-weaker Behind (λ k. AreApart e k.entry) (λ k before. inr before) i.pointers.entries behind)

pub invariant_of-self : goal.invariant_of-self
invariant_of-self c =
    let i = c.self.inside in
    let k = c.self.invariant in
    let e : Entry = record { base = c.args.base; size = c.args.size; object = i.next; sort = Static } in
    let few : i.statics < i.most_statics = subst (λ (l : Living). l.statics < l.most_statics) (sym c.self.view_is) c.requires.few in
    let lies : IsPlacedKnown i.shelf.heap (record { entry = e; freed = false }) = record { before = omega (arith, c.requires.before); live = refl } in
    let given : IsGivenOut (i.next + 1) (record { entry = e; freed = false }) = (c.requires.base, k.first, omega arith) in
    rw c.insert.ensures
    (kept_elsewhere i.pointers i.shelf i.outside i.most_statics i.statics i.locals i.next k e (i.statics + 1) i.locals (i.next + 1) lies refl given (omega (arith, few)) k.few_locals (omega arith) (omega arith))

pub returns : goal.returns
returns c =
    let i = c.self.inside in
    let e : ℕ → Entry = λ o. record { base = c.args.base; size = c.args.size; object = o; sort = Static } in
    let n : Known = record { entry = e i.next; freed = false } in
    let view : Pointing → Living = λ p. living_in p i.shelf i.outside i.profile i.most_statics (i.statics + 1) i.locals (i.next + 1) in
    let made : Pointing = record i.pointers { entries = with_live (e i.next) i.pointers.entries } in
    let with_blocks : List Allocated → Living = λ bs. record (view made) { blocks = bs } in
    let wanted : Living → Living = λ l. record l { statics = l.statics + 1; entries = with_live (e l.next) l.entries; next = l.next + 1 } in
    ap view c.insert.ensures ∙ ap with_blocks (blocks-elsewhere n i.pointers.entries refl) ∙ ap wanted c.self.view_is
