use Rattle.std.proofs.Common.{ℕ, ◌+◌, ◌<◌, false, List, arith, refl, sym, ap, ◌∙◌, subst}
use Rattle.std.specs.List.{All}
use Rattle.std.proofs.lemmas.List.Elements.{All-map, All-weaker}
use Rattle.ob_model.specs.declared.objects.Entry.{Entry}
use Rattle.ob_model.specs.declared.objects.Sort.TheVariants.{Automatic}
use Rattle.ob_model.specs.Entries.{Known, with_live}
use Rattle.ob_model.specs.Heap.{Allocated}
use Rattle.ob_objects.specs.Objects.{AreApart}
use Rattle.ob_pointers.specs.Pointing.{Pointing}
use Rattle.ob_code.specs.Frames.{local_entry}
use Rattle.ob_standing.specs.Laws.{IsGivenOut}
use Rattle.ob_lifetimes.specs.Living.{Living}
use Rattle.ob_lifetimes.specs.Kept.{IsBeside, IsPlacedKnown, living_in}
use Rattle.ob_lifetimes.proofs.Heaps.{blocks-elsewhere}
use Rattle.ob_lifetimes.proofs.Keeping.{kept_elsewhere}
use Rattle.ob_lifetimes.proofs.Rooms.{room_elsewhere}
use Rattle.ob_lifetimes.proofs.lifetimes.Lifetimes.insert_local.Goals as goal

pub insert-requires-clause-room : goal.insert-requires-clause-room
insert-requires-clause-room c =
    let i = c.self.inside in
    let k = c.self.invariant in
    let few : i.locals < 65536 = subst (λ (l : Living). l.locals < 65536) (sym c.self.view_is) c.requires.few in
    let most = room_elsewhere i.shelf.heap i.pointers.entries c.stands.ensures.in_order k.places in
    omega (arith, few, most, k.most, k.count, k.few_statics)

pub insert-requires-clause-apart : goal.insert-requires-clause-apart
insert-requires-clause-apart c =
    let i = c.self.inside in
    let e : Entry = local_entry c.args.base c.args.first c.args.row in
    let room : All (IsBeside c.args.base c.args.first c.args.row) i.pointers.entries = subst (λ (l : Living). All (IsBeside c.args.base c.args.first c.args.row) l.entries) (sym c.self.view_is) c.requires.room in
    All-map (AreApart e) (λ (k : Known). k.entry) i.pointers.entries
    (All-weaker (IsBeside c.args.base c.args.first c.args.row) (λ k. AreApart e k.entry) (λ k b. b.0) i.pointers.entries room)

pub invariant_of-self : goal.invariant_of-self
invariant_of-self c =
    let i = c.self.inside in
    let k = c.self.invariant in
    let e : Entry = local_entry c.args.base c.args.first c.args.row in
    let few : i.locals < 65536 = subst (λ (l : Living). l.locals < 65536) (sym c.self.view_is) c.requires.few in
    let next : c.args.first + c.args.row.ordinal < i.next = subst (λ (l : Living). c.args.first + c.args.row.ordinal < l.next) (sym c.self.view_is) c.requires.next in
    let lies : IsPlacedKnown i.shelf.heap (record { entry = e; freed = false }) = record { before = c.requires.end; live = refl } in
    let given : IsGivenOut i.next (record { entry = e; freed = false }) = (omega (arith, c.requires.base), omega (arith, c.requires.first), next) in
    rw (c.insert.ensures, c.from.ensures)
    (kept_elsewhere i.pointers i.shelf i.outside i.most_statics i.statics i.locals i.next k e i.statics (i.locals + 1) i.next lies refl given k.few_statics (omega (arith, few)) (omega arith) (omega arith))

pub returns : goal.returns
returns c =
    let i = c.self.inside in
    let e : Entry = local_entry c.args.base c.args.first c.args.row in
    let n : Known = record { entry = e; freed = false } in
    let view : Pointing → Living = λ p. living_in p i.shelf i.outside i.profile i.most_statics i.statics (i.locals + 1) i.next in
    let made : ℕ → Pointing = λ o. record i.pointers { entries = with_live (record { base = c.args.base + c.args.row.place; size = c.args.row.size; object = c.args.first + o; sort = Automatic }) i.pointers.entries } in
    let with_blocks : List Allocated → Living = λ bs. record (view (made c.args.row.ordinal)) { blocks = bs } in
    let wanted : Living → Living = λ l. record l { entries = with_live e l.entries; locals = l.locals + 1 } in
    ap view (c.insert.ensures ∙ ap made c.from.ensures) ∙ ap with_blocks (blocks-elsewhere n i.pointers.entries refl) ∙ ap wanted c.self.view_is
