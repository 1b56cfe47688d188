use Rattle.std.proofs.Common.{◌≡◌, ◌≤◌, ℕ, Bool, List, refl, ◌∙◌, ap, sym, subst, take, map, ◌++◌, ◌∷◌, [], arith, length}
use Rattle.std.proofs.lemmas.Grind.{common_steps}
use Rattle.std.specs.Map.Iter.{deref_pair}
use Rattle.ld_msg.specs.declared.msg.Entry.{Entry}
use Rattle.ld_op.specs.Places.{filled}
use Rattle.ld_op.specs.Picks.{picked}
use Rattle.ld_op.specs.Answers.{page_upto, page_limit, last_number}
use Rattle.ld_op.proofs.Carried.{shown, shown_append, shown_length, shown_last}
use Rattle.ld_op.proofs.Pages.{walk_on, walk_at, walk_end, map_on, ranged, picked-crossed, gather, gather_on, gather_more, gather_same, full_page, full_upto, short_page, short_upto}
use Rattle.ld_op.proofs.entries.EntryMap.excerpt.Goals as goal

length_of : (carries : ℕ → Bool) (es xs : List Entry) → es ≡ map (shown carries) xs → length es ≡ length xs
length_of carries es xs h = ap length h ∙ shown_length carries xs

pub returns-then-last-from-clause-entries : goal.returns-then-last-from-clause-entries
returns-then-last-from-clause-entries g c = c.empty-entries.ensures ∙ sym (ap (λ es. map (shown (g.C.Carries.carries c.args.carries.now)) (take page_limit es)) (picked-crossed c.args.bridges (filled c.args.self.now) c.args.from c.args.last c.if-last-from.true))

pub returns-then-last-from-clause-upto : goal.returns-then-last-from-clause-upto
returns-then-last-from-clause-upto g c = c.from_u64.ensures ∙ sym (ap (λ es. page_upto es c.args.last) (picked-crossed c.args.bridges (filled c.args.self.now) c.args.from c.args.last c.if-last-from.true))

all_full : (g : _) (c : goal.After-last_number-upto g) → picked c.args.bridges (filled c.args.self.now) c.args.from c.args.last ≡ gather c.args.bridges (map deref_pair c.places.yielded) ++ c.in-Some-pick.entry.now ∷ gather c.args.bridges c.next.new.self
all_full g c = ranged c.args.bridges c.self.inside.map.entries c.args.self.now c.range-place-items.result c.into_iter-place-iterator.result c.args.from c.args.last _ _ c.into_iter-place-iterator.ensures.into_iter_gives (c.range-place-items.ensures.between c.new.ensures.exhausted) c.new.ensures.start c.new.ensures.end c.self.view_is c.range-place-items.ensures.ordered c.self.invariant
    ∙ gather_on c.args.bridges c.into_iter-place-iterator.result (map deref_pair c.places.yielded) c.next.new.self (deref_pair (c.in-Some.field-0-0, c.in-Some.place)) (gather c.args.bridges (map deref_pair c.places.yielded)) c.in-Some-pick.entry.now
    (walk_at deref_pair c.places.yielded (c.in-Some.field-0-0, c.in-Some.place) c.places.place-iterator c.next.new.self c.into_iter-place-iterator.result c.places.invariant.all c.in-Some.ensures.steps) refl (sym c.in-Some-pick.ensures)

count : (g : _) (c : goal.After-last_number-upto g) → length (gather c.args.bridges (map deref_pair c.places.yielded)) ≡ 64
count g c =
    let f = c.places.invariant.few in
    let n : length c.places.entries ≡ 64 = omega arith in
    sym (length_of (g.C.Carries.carries c.args.carries.now) c.places.entries _ c.places.invariant.gathered) ∙ n

pub returns-then-len-ge-LIMIT-clause-entries : goal.returns-then-len-ge-LIMIT-clause-entries
returns-then-len-ge-LIMIT-clause-entries g c = c.places.invariant.gathered ∙ ap (map (shown (g.C.Carries.carries c.args.carries.now))) (full_page _ _ _ _ (all_full g c) (count g c))

pub returns-then-len-ge-LIMIT-clause-upto : goal.returns-then-len-ge-LIMIT-clause-upto
returns-then-len-ge-LIMIT-clause-upto g c = c.last_number-upto.ensures ∙ (ap last_number (c.as_slice.ensures ∙ c.places.invariant.gathered)
    ∙ (shown_last (g.C.Carries.carries c.args.carries.now) (gather c.args.bridges (map deref_pair c.places.yielded)) ∙ full_upto _ _ _ _ c.args.last (all_full g c) (count g c)))

pub places-preserved-in-Continue-1 : goal.places-preserved-in-Continue-1
places-preserved-in-Continue-1 g c =
    let show = shown (g.C.Carries.carries c.args.carries.now) in
    let before = gather c.args.bridges (map deref_pair c.places.yielded) in
    record {
      all = walk_on deref_pair c.places.yielded (c.in-Some.field-0-0, c.in-Some.place) c.places.place-iterator c.next.new.self _ c.places.invariant.all c.in-Some.ensures.steps;
      gathered = c.in_ok-push.ensures.ok ∙ (ap (λ e. c.places.entries ++ e ∷ []) c.copy.ensures
          ∙ (ap (λ es. es ++ show c.in-Some-pick.entry.now ∷ []) c.places.invariant.gathered
          ∙ (sym (shown_append (g.C.Carries.carries c.args.carries.now) before (c.in-Some-pick.entry.now ∷ []))
          ∙ ap (map show) (gather_more c.args.bridges (map deref_pair c.places.yielded) (deref_pair (c.in-Some.field-0-0, c.in-Some.place)) before c.in-Some-pick.entry.now refl (sym c.in-Some-pick.ensures)
          ∙ ap (gather c.args.bridges) (sym (map_on deref_pair c.places.yielded (c.in-Some.field-0-0, c.in-Some.place)))))));
      few = let h = c.in_ok-push.ensures.ok in let f = c.places.invariant.few in grind (arith, common_steps);
    }

pub places-preserved : goal.places-preserved
places-preserved g c = record {
  all = walk_on deref_pair c.places.yielded (c.in-Some.field-0-0, c.in-Some.place) c.places.place-iterator c.next.new.self _ c.places.invariant.all c.in-Some.ensures.steps;
  gathered = c.places.invariant.gathered ∙ ap (map (shown (g.C.Carries.carries c.args.carries.now))) (gather_same c.args.bridges (map deref_pair c.places.yielded) (deref_pair (c.in-Some.field-0-0, c.in-Some.place)) _ refl (sym c.in_default.ensures)
      ∙ ap (gather c.args.bridges) (sym (map_on deref_pair c.places.yielded (c.in-Some.field-0-0, c.in-Some.place))));
  few = c.places.invariant.few;
}

all_short : (g : _) (c : goal.After-from_u64-2 g) → picked c.args.bridges (filled c.args.self.now) c.args.from c.args.last ≡ gather c.args.bridges (map deref_pair c.places.yielded)
all_short g c = ranged c.args.bridges c.self.inside.map.entries c.args.self.now c.range-place-items.result c.into_iter-place-iterator.result c.args.from c.args.last _ _ c.into_iter-place-iterator.ensures.into_iter_gives (c.range-place-items.ensures.between c.new.ensures.exhausted) c.new.ensures.start c.new.ensures.end c.self.view_is c.range-place-items.ensures.ordered c.self.invariant
    ∙ ap (gather c.args.bridges) (sym (walk_end deref_pair c.places.yielded c.places.place-iterator c.into_iter-place-iterator.result c.places.invariant.all c.in-None.ensures.steps.0))

fits : (g : _) (c : goal.After-from_u64-2 g) → length (gather c.args.bridges (map deref_pair c.places.yielded)) ≤ 64
fits g c = subst (λ n. n ≤ 64) (length_of (g.C.Carries.carries c.args.carries.now) c.places.entries _ c.places.invariant.gathered) c.places.invariant.few

pub returns-clause-entries : goal.returns-clause-entries
returns-clause-entries g c = c.places.invariant.gathered ∙ ap (map (shown (g.C.Carries.carries c.args.carries.now))) (short_page _ _ (all_short g c) (fits g c))

pub returns-clause-upto : goal.returns-clause-upto
returns-clause-upto g c = c.from_u64-2.ensures ∙ short_upto _ _ c.args.last (all_short g c) (fits g c)
