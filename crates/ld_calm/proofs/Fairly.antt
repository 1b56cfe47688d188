-- A node that is asked by a confirmation as it is, lost for the next number's epoch under its generation, says so again, or its answer gives an item.
use Rattle.std.proofs.Common.{◌≡◌, ◌∙◌, ◌⊎◌, ◌≤◌, ℕ, zero, suc, ◌+◌, ◌-◌, ◌^◌, inl, inr, refl, ap, sym, subst, Bool, true, false, ◌&&◌, ◌==◌, if◌then◌else◌, nat_lt, nat_le, List, [], ◌∷◌, ◌++◌, Option, Some, None, arith}
use Rattle.std.proofs.lemmas.Bool.{and_parts, and_from, leb-true, le-leb, ltb-true, eqb-true, eq-eqb}
use Rattle.ld_table.specs.Table.{find, put}
use Rattle.ld_table.specs.Words.{or_else}
use Rattle.ld_table.proofs.Laws.{find-put_same}
use Rattle.ld_lsn.specs.Number.{epoch_of, esn_of, numbered, home_epoch, home_esn, is_epoch_end, last_esn}
use Rattle.ld_msg.specs.declared.msg.Summary.{Summary}
use Rattle.ld_msg.specs.declared.msg.Body.{Body}
use Rattle.ld_msg.specs.declared.msg.Body.TheVariants as bodies
use Rattle.ld_msg.specs.Register.{View}
use Rattle.ld_msg.specs.Reading.{Held, Item, TrimTo, RecordHere, HoleHere, LossHere, LossTo, BridgeTo, Verdict, Gives, Confirms, AsksAll, NotYet, trim_told, trim_held, record_held, hole_held, plug_held, withheld_held, end_shown, end_held, bridge_to, decide, entry_verdict, copy_verdict, end_verdict, loss_verdict}
use Rattle.ld_msg.specs.Reader.{Reader, Read, Confirmation, is_finished, may_confirm, seen_nodes, misses, verdict, gives, confirms, asks_all, gives_all, gave_item, most_items, held_size, round_of, is_newer, confirms_loss, same_generation, heard, nothing_read}
use Rattle.ld_op.specs.Plain.{Log, summary_at, is_lost}
use Rattle.ld_op.specs.Answers.{read_answer, epoch_answer, lost_or, open_answer, clean_page}
use Rattle.ld_machine.specs.World.{In}
use Rattle.ld_safety.proofs.Lists.{cond_both}
use Rattle.ld_safety.proofs.Members.{find_in}
use Rattle.ld_safety.proofs.LostPages.{home_is}

-- ---- items stay ----

added : (is : List (ℕ × Item)) (i : ℕ × Item) → gave_item (is ++ i ∷ []) ≡ true
added [] i = refl
added (j ∷ is) i = refl

module _ (looks : ℕ → View) where
  abbrev going : ℕ → Read → Verdict → Read
  going k a v = elim v as (λ _. Read) [ Gives i ↦ gives_all k looks (gives a i) | Confirms lost ↦ confirms looks a lost | AsksAll ↦ asks_all looks a | NotYet ↦ a ]

  grows_by : (k : ℕ) (a : Read) → ((b : Read) → gave_item b.items ≡ true → gave_item (gives_all k looks b).items ≡ true) → gave_item a.items ≡ true → (v : Verdict) → gave_item (going k a v).items ≡ true
  grows_by k a ih h (Gives i) = ih (gives a i) (added a.items (a.reader.next, i))
  grows_by k a ih h (Confirms lost) = h
  grows_by k a ih h AsksAll = h
  grows_by k a ih h NotYet = h

  grows : (k : ℕ) (a : Read) → gave_item a.items ≡ true → gave_item (gives_all k looks a).items ≡ true
  grows zero a h = h
  grows (suc k) a h = grows_by k a (λ b g. grows k b g) h (verdict a.reader)

  -- where a row gives an item, one is given
  gives_one : (k : ℕ) (a : Read) (i : Item) → verdict a.reader ≡ Gives i → gave_item (gives_all (suc k) looks a).items ≡ true
  gives_one k a i e = subst (λ v. gave_item (going k a v).items ≡ true) (sym e) (grows k (gives a i) (added a.items (a.reader.next, i)))

-- ---- rows that hold ----

open_verdict : (e : Reader) → is_finished e ≡ false → verdict e ≡ decide e.next (misses e e.senders) (may_confirm e) (seen_nodes e.seen) e.held
open_verdict e h = ap (λ t. if t then NotYet else decide e.next (misses e e.senders) (may_confirm e) (seen_nodes e.seen) e.held) h

by_trim : (e : Reader) → is_finished e ≡ false → e.next ≤ trim_held e.held → verdict e ≡ Gives (TrimTo (trim_held e.held))
unfolding decide
by_trim e h l = open_verdict e h ∙ ap (λ t. if t then Gives (TrimTo (trim_held e.held)) else entry_verdict (record_held e.next e.held) (hole_held e.next e.held) (plug_held e.next e.held)
    (copy_verdict (withheld_held e.next e.held) (misses e e.senders) (end_verdict e.next (end_held e.next e.held) (loss_verdict e.next (may_confirm e) (seen_nodes e.seen) e.held)))) (le-leb e.next (trim_held e.held) l)

-- an end, where no single copy is missed
by_end : (e : Reader) (loss : Bool) → is_finished e ≡ false → misses e e.senders ≡ false → end_held e.next e.held ≡ Some loss → (i : Item) × (verdict e ≡ Gives i)
unfolding decide
by_end e loss h m q = let d = by_trims (nat_le e.next (trim_held e.held)) in (d.0, open_verdict e h ∙ d.1) where
  no_copy : (w : Bool) → (i : Item) × (copy_verdict w (misses e e.senders) (end_verdict e.next (end_held e.next e.held) (loss_verdict e.next (may_confirm e) (seen_nodes e.seen) e.held)) ≡ Gives i)
  no_copy true = ((if loss then LossTo (bridge_to e.next) else BridgeTo (bridge_to e.next)), (λ j. if m j then AsksAll else end_verdict e.next (q j) (loss_verdict e.next (may_confirm e) (seen_nodes e.seen) e.held)))
  no_copy false = ((if loss then LossTo (bridge_to e.next) else BridgeTo (bridge_to e.next)), (λ j. end_verdict e.next (q j) (loss_verdict e.next (may_confirm e) (seen_nodes e.seen) e.held)))

  by_entry : (o : Option (List ℕ)) (u p : Bool) → (i : Item) × (entry_verdict o u p (copy_verdict (withheld_held e.next e.held) (misses e e.senders) (end_verdict e.next (end_held e.next e.held) (loss_verdict e.next (may_confirm e) (seen_nodes e.seen) e.held))) ≡ Gives i)
  by_entry (Some x) u p = (RecordHere x, refl)
  by_entry None true p = (HoleHere, refl)
  by_entry None false true = (LossHere, refl)
  by_entry None false false = no_copy (withheld_held e.next e.held)

  by_trims : (t : Bool) → (i : Item) × ((if t then Gives (TrimTo (trim_held e.held)) else entry_verdict (record_held e.next e.held) (hole_held e.next e.held) (plug_held e.next e.held)
      (copy_verdict (withheld_held e.next e.held) (misses e e.senders) (end_verdict e.next (end_held e.next e.held) (loss_verdict e.next (may_confirm e) (seen_nodes e.seen) e.held)))) ≡ Gives i)
  by_trims true = (TrimTo (trim_held e.held), refl)
  by_trims false = by_entry (record_held e.next e.held) (hole_held e.next e.held) (plug_held e.next e.held)

-- ---- what is held ----

trim_least : (y : ℕ) (h : Held) (hs : List (ℕ × Held)) → In (y, h) hs → trim_told h.body ≤ trim_held hs
trim_least y h [] i = absurd i
trim_least y h (k ∷ hs) (inl e) = let z : trim_told h.body ≡ trim_told k.1.body = ap (λ (x : ℕ × Held). trim_told x.1.body) e in omega arith
trim_least y h (k ∷ hs) (inr i) = let ih : trim_told h.body ≤ trim_held hs = trim_least y h hs i in omega arith

end_found : (s y : ℕ) (h : Held) (hs : List (ℕ × Held)) (loss : Bool) → In (y, h) hs → end_shown s h.body ≡ Some loss → (x : Bool) × (end_held s hs ≡ Some x)
end_found s y h [] loss i e = absurd i
end_found s y h (k ∷ hs) loss (inl q) e = (loss, ap (λ o. or_else o (end_held s hs)) (ap (λ (x : ℕ × Held). end_shown s x.1.body) (sym q) ∙ e))
end_found s y h (k ∷ hs) loss (inr i) e = by_first (end_shown s k.1.body) (end_found s y h hs loss i e) where
  by_first : (o : Option Bool) → (x : Bool) × (end_held s hs ≡ Some x) → (x : Bool) × (or_else o (end_held s hs) ≡ Some x)
  by_first (Some z) ih = (z, refl)
  by_first None ih = ih

-- ---- numbers ----

-- an end at or below the place of a number is of the number's epoch, and isn't above it
end_below : (next k : ℕ) → 1 ≤ k → k ≤ last_esn → k ≤ home_esn next → (home_epoch (numbered (home_epoch next) k) ≡ home_epoch next) × (numbered (home_epoch next) k ≤ next)
end_below next k a b c = (here, by_last (is_epoch_end next) refl c) where
  here : home_epoch (numbered (home_epoch next) k) ≡ home_epoch next
  here = (home_is (numbered (home_epoch next) k) (home_epoch next) (omega arith) (omega arith)).0

  by_last : (t : Bool) → is_epoch_end next ≡ t → k ≤ (if t then 2 ^ 32 else esn_of next) → numbered (if t then epoch_of next - 1 else epoch_of next) k ≤ next
  by_last true t l = let p = and_parts (esn_of next == 0) (nat_lt 0 (epoch_of next)) t in let q = eqb-true (esn_of next) 0 p.0 in let r = ltb-true 0 (epoch_of next) p.1 in omega arith
  by_last false t l = omega arith

-- ---- the answer ----

-- the node's answer to an ask of the confirmation
module _ (looks : ℕ → View) (d : Reader) (y : ℕ) (v : Confirmation) (generation released : ℕ) (g : Log) (confirming : d.confirming ≡ Some v) (alone : d.senders ≡ None) (open_still : is_finished d ≡ false)
    (asked : find y v.asked ≡ Some generation) (lost : is_lost g (home_epoch d.next) ≡ true) (ends : (z : Summary) → summary_at g (home_epoch d.next) ≡ Some z → (1 ≤ z.end) × (z.end ≤ last_esn)) where
  -- it says so again, or gives an item
  abbrev Fair : Body → Type 0
  Fair b = is_newer (find y d.held) (round_of b) ≡ true → (confirms_loss v.asked y b ≡ true) ⊎ (gave_item (gives_all (most_items (heard d y b)) looks (nothing_read (heard d y b))).items ≡ true)

  held_now : (b : Body) → is_newer (find y d.held) (round_of b) ≡ true → In (y, record { round = round_of b; body = b }) (heard d y b).held
  held_now b n = subst (λ t. In (y, record { round = round_of b; body = b }) (if t then put y (record { round = round_of b; body = b }) d.held else d.held)) (sym n) (find_in y (put y (record { round = round_of b; body = b }) d.held) (record { round = round_of b; body = b }) (find-put_same y y (record { round = round_of b; body = b }) d.held refl))

  -- there is fuel for an item
  one_at_least : (b : Body) (i : Item) → verdict (heard d y b) ≡ Gives i → gave_item (gives_all (most_items (heard d y b)) looks (nothing_read (heard d y b))).items ≡ true
  one_at_least b i e = let k : most_items (heard d y b) ≡ suc (held_size (heard d y b).held + 1) = omega arith in
      subst (λ n. gave_item (gives_all n looks (nothing_read (heard d y b))).items ≡ true) (sym k) (gives_one looks (held_size (heard d y b).held + 1) (nothing_read (heard d y b)) i e)

  no_miss : (b : Body) → misses (heard d y b) (heard d y b).senders ≡ false
  no_miss b = ap (misses (heard d y b)) alone

  trimmed : d.next ≤ g.trim → Fair (bodies.ReadTrim v.round d.next g.trim)
  trimmed l n = let b : Body = bodies.ReadTrim v.round d.next g.trim in let low = trim_least y (record { round = round_of b; body = b }) (heard d y b).held (held_now b n) in
      inr (one_at_least b _ (by_trim (heard d y b) open_still (omega arith)))

  says_lost : (end : ℕ) → Fair (bodies.LostHere d.next v.round generation end)
  says_lost end n = inl (ap (λ o. same_generation o generation) asked ∙ eq-eqb generation generation refl)

  ended : (z : Summary) → summary_at g (home_epoch d.next) ≡ Some z → z.end ≤ home_esn d.next → Fair (bodies.ReadEnded v.round d.next (numbered (home_epoch d.next) z.end) z.loss)
  ended z e l n =
      let b : Body = bodies.ReadEnded v.round d.next (numbered (home_epoch d.next) z.end) z.loss in
      let k = ends z e in let p = end_below d.next z.end k.0 k.1 l in
      let t : ((home_epoch (numbered (home_epoch d.next) z.end) == home_epoch d.next) && nat_le (numbered (home_epoch d.next) z.end) d.next) ≡ true
      = and_from (home_epoch (numbered (home_epoch d.next) z.end) == home_epoch d.next) (nat_le (numbered (home_epoch d.next) z.end) d.next) (eq-eqb _ _ p.0) (le-leb _ _ p.1) in
      let shown : end_shown d.next b ≡ Some z.loss = ap (λ u. if u then Some z.loss else None) t in
      let f = end_found d.next y (record { round = round_of b; body = b }) (heard d y b).held z.loss (held_now b n) shown in
      let w = by_end (heard d y b) f.0 open_still (no_miss b) f.1 in inr (one_at_least b w.0 w.1)

  by_summary : (o : Option Summary) → summary_at g (home_epoch d.next) ≡ o → Fair (epoch_answer generation g released v.round d.next o)
  by_summary None e = subst (λ t. Fair (lost_or t generation v.round d.next 0 (open_answer g released v.round d.next))) (sym lost) (says_lost 0)
  by_summary (Some z) e = cond_both (nat_le z.end (home_esn d.next)) (bodies.ReadEnded v.round d.next (numbered (home_epoch d.next) z.end) z.loss) (lost_or (is_lost g (home_epoch d.next)) generation v.round d.next (numbered (home_epoch d.next) z.end) (clean_page g v.round d.next z)) Fair
      (λ t. ended z e (leb-true z.end (home_esn d.next) t))
      (λ t. subst (λ u. Fair (lost_or u generation v.round d.next (numbered (home_epoch d.next) z.end) (clean_page g v.round d.next z))) (sym lost) (says_lost (numbered (home_epoch d.next) z.end)))

  pub fair : Fair (read_answer generation g released v.round d.next)
  unfolding read_answer
  fair = cond_both (nat_le d.next g.trim) (bodies.ReadTrim v.round d.next g.trim) (epoch_answer generation g released v.round d.next (summary_at g (home_epoch d.next))) Fair (λ t. trimmed (leb-true d.next g.trim t)) (λ t. by_summary (summary_at g (home_epoch d.next)) refl)
