-- A Base's areas hold each payload that entries point to.
use Rattle.std.proofs.Common.{◌≡◌, ◌≢◌, refl, ⊎_elim, ℕ, ◌+◌, ◌≤◌, ◌<◌, cond, nat_le, nat_lt, nat_cmp, ◌&&◌, ◌==◌, List, [], ◌∷◌, None, Some, Bool, true, false, sym, ap, ◌∙◌, arith}
use Rattle.std.proofs.lemmas.Bool.{or_left, or_right, cases_eq}
use Rattle.std.proofs.lemmas.Bool.Decides.{nat_tests}
use Rattle.std.specs.BTreeMap.{is_at}
use Rattle.ld_table.specs.Table.{find, Ordered}
use Rattle.ld_table.specs.Words.{any_of, is_in}
use Rattle.ld_table.proofs.Laws.{kept, same_key, find-keep, find-put_other}
use Rattle.ld_msg.specs.declared.msg.What.TheVariants.{Rec}
use Rattle.ld_msg.specs.declared.msg.Entry.{Entry}
use Rattle.ld_op.specs.Plain.{Plain, Log}
use Rattle.ld_layout.specs.Areas.{is_inside, least_place, IsHeld}
use Rattle.ld_layout.specs.Layout.{Layout, used, points_into, holds_payload, closed_areas, live_areas, switched_to, IsLaid, AreHeld}
use Rattle.ld_layout.proofs.Free.{is_free}
use Rattle.ld_layout.proofs.Live.{free_of_each, rise_of}
use Rattle.ld_layout.proofs.Switches.{holds, used_is, closed_ordered, closed_shrunk, size, behind}

any_by : {X : Type 0} (P : ℕ × X → Bool) (k : ℕ) (x : X) (a : ℕ × X) (m : List (ℕ × X)) (b : Bool) → is_at (nat_cmp k) a.0 ≡ b → P (k, x) ≡ true → (find k m ≡ Some x → any_of P m ≡ true)
    → cond b (Some a.1) (find k m) ≡ Some x → any_of P (a ∷ m) ≡ true
any_by P k x a m true is holds later found =
    let key : a.0 ≡ k = sym (same_key k a.0 is) in
    let value : a.1 ≡ x = cc found in
    or_left (P a) (any_of P m) ((λ i. P (key i, value i)) ∙ holds)
any_by P k x a m false is holds later found = or_right (P a) (any_of P m) (later found)

-- what is found passes, so one does
any_found : {X : Type 0} (P : ℕ × X → Bool) (k : ℕ) (x : X) (m : List (ℕ × X)) → find k m ≡ Some x → P (k, x) ≡ true → any_of P m ≡ true
unfolding find
any_found P k x [] found holds = absurd (cc found)
any_found P k x (a ∷ m) found holds = any_by P k x a m (is_at (nat_cmp k) a.0) refl holds (λ later. any_found P k x m later holds) found

both : (a b : Bool) → a ≡ true → b ≡ true → (a && b) ≡ true
both a b is_a is_b = ap (λ c. c && b) is_a ∙ is_b

inside : (k v at : ℕ) → (k ≤ at) × (at + 1 < k + v) → is_inside (k, v) at ≡ true
inside k v at within = both (nat_le k at) (nat_lt at (k + v)) (let l : nat_le k at ≡ true = grind (arith, nat_tests) in l) (let l : nat_lt at (k + v) ≡ true = grind (arith, nat_tests) in l)

first_in : (k : ℕ) (ks : List ℕ) → is_in k (k ∷ ks) ≡ true
first_in k ks = or_left (k == k) (is_in k ks) (let l : (k == k) ≡ true = grind (arith, nat_tests) in l)

stays_used : (p : Plain) (areas : List (ℕ × ℕ)) (k v : ℕ) → Ordered areas → find k areas ≡ Some v → holds p k v ≡ true → find k (used p areas) ≡ Some v
stays_used p areas k v ordered found passes =
    ap (λ m. find k m) (used_is p areas ordered) ∙ find-keep k (holds p) areas ∙ ap (kept (holds p) k) found ∙ ap (λ b. cond b (Some v) None) passes

module _ (y : Layout) (cause room : ℕ) (laid : IsLaid y) (less : room ≤ cause) where
  abbrev closed : List (ℕ × ℕ)
  closed = closed_areas y y.later

  abbrev place : ℕ
  place = least_place (size y cause room laid less) 0 (live_areas y y.later)

  -- the new segment stands elsewhere
  elsewhere : (k v at : ℕ) → find k closed ≡ Some v → k ≤ at → at < k + v → k ≢ place
  elsewhere k v at found from below same = ⊎_elim
      (λ first. omega (arith, first, same, behind y cause room laid less))
      (λ later.
      let old = closed_shrunk y y.later laid.segment k v later found in
      let free = is_free (size y cause room laid less) 0 0 (live_areas y y.later) (rise_of (live_areas y y.later) laid.live.ordered) in
      ⊎_elim (λ before. omega (arith, before, same)) (λ past. omega (arith, past, same, old.longer, from, below)) (free_of_each (size y cause room laid less) place k old.here (live_areas y y.later) free old.found))
      (cases_eq k 0)

  kept_by : (l n : ℕ) (g : Log) (e : Entry) (p : List ℕ) → find l y.index.logs ≡ Some g → find n g.entries ≡ Some e → e.what ≡ Rec p → IsHeld p closed → IsHeld p (closed_areas (switched_to y cause room) (switched_to y cause room).later)
  unfolding switched_to
  kept_by l n g e [] at_l at_n is held = tt
  kept_by l n g e (k ∷ ks) at_l at_n is held =
      let within = held.within k (first_in k ks) in
      let entry = ap (points_into (held.place, held.length)) is ∙ inside held.place held.length k within in
      let in_log = any_found (λ f. points_into (held.place, held.length) f.1.what) n e g.entries at_n entry in
      let passes = any_found (holds_payload (held.place, held.length)) l g y.index.logs at_l in_log in
      let stays = stays_used y.index closed held.place held.length (closed_ordered y y.later laid.segment) held.found passes in
      record {
        place = held.place;
        length = held.length;
        found = find-put_other held.place place _ (used y.index closed) (elsewhere held.place held.length k held.found within.0 (omega (arith, within.1))) ∙ stays;
        within = held.within;
      }

  pub switch_held : AreHeld y → AreHeld (switched_to y cause room)
  unfolding switched_to
  switch_held held l n g e p at_l at_n is = kept_by l n g e p at_l at_n is (held l n g e p at_l at_n is)
