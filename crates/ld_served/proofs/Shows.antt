-- A reader that holds an answer which tells what its next number is, or where a payload is withheld and its sender lacks it, has something to give or to ask.
use Rattle.std.proofs.Common.{◌≡◌, ◌∙◌, ◌≤◌, ◌<◌, ℕ, inl, inr, refl, ap, sym, Bool, true, false, ◌&&◌, nat_le, if◌then◌else◌, List, [], ◌∷◌, Option, Some, None, arith}
use Rattle.std.proofs.lemmas.Bool.{and_from, leb-false, eq-eqb}
use Rattle.ld_table.specs.Table.{find}
use Rattle.ld_table.specs.Words.{or_else}
use Rattle.ld_msg.specs.declared.msg.What.{What}
use Rattle.ld_msg.specs.declared.msg.What.TheVariants.{Rec, Hole, Bridge, Plug, Withheld}
use Rattle.ld_msg.specs.declared.msg.Body.{Body}
use Rattle.ld_msg.specs.Choice.{sender}
use Rattle.ld_msg.specs.Digest.{is_bridge}
use Rattle.ld_msg.specs.Reading.{Held, Verdict, Gives, AsksAll, NotYet, TrimTo, trim_told, trim_held, page_at, record_of, record_held, is_hole, hole_held, is_plug, plug_held, withheld_held, sends_nothing, lacks_copy, sent_nothing, end_shown, end_held, bridge_to, decide, entry_verdict, copy_verdict, end_verdict, loss_verdict}
use Rattle.ld_msg.specs.Reading as reading
use Rattle.ld_msg.specs.Reader.{Reader, Senders, is_finished, may_confirm, seen_nodes, misses, verdict}
use Rattle.ld_machine.specs.Invariant.{is_withheld}
use Rattle.ld_machine.specs.World.{In}
use Rattle.ld_safety.proofs.Lists.{not_none, not_both, any_from}
use Rattle.ld_safety.proofs.Members.{find_in}

-- an answer that tells what a number is: trimmed, past its epoch's end, or a record, a hole or a plug
pub data Tells (s : ℕ) (b : Body) : Type 0 where
  trimmed : s ≤ trim_told b → Tells s b
  ended : (loss : Bool) → end_shown s b ≡ Some loss → Tells s b
  shows : (x : What) → page_at s b ≡ Some x → is_bridge x ≡ false → is_withheld x ≡ false → Tells s b

-- ---- what is held ----
trim_least : (y : ℕ) (h : Held) (hs : List (ℕ × Held)) → In (y, h) hs → trim_told h.body ≤ trim_held hs
trim_least y h [] i = absurd i
trim_least y h (k ∷ hs) (inl e) = let z : trim_told h.body ≡ trim_told k.1.body = ap (λ (x : ℕ × Held). trim_told x.1.body) e in omega arith
trim_least y h (k ∷ hs) (inr i) = let ih : trim_told h.body ≤ trim_held hs = trim_least y h hs i in omega arith

end_found : (s y : ℕ) (h : Held) (hs : List (ℕ × Held)) (loss : Bool) → In (y, h) hs → end_shown s h.body ≡ Some loss → end_held s hs ≡ None → ⊥
end_found s y h [] loss i e n = i
end_found s y h (k ∷ hs) loss (inl q) e n = by_first (end_shown s k.1.body) (ap (λ (x : ℕ × Held). end_shown s x.1.body) (sym q) ∙ e) n where
  by_first : (o : Option Bool) → o ≡ Some loss → or_else o (end_held s hs) ≡ None → ⊥
  by_first None a b = not_none a
  by_first (Some z) a b = not_none (sym b)
end_found s y h (k ∷ hs) loss (inr i) e n = by_first (end_shown s k.1.body) n (end_found s y h hs loss i e) where
  by_first : (o : Option Bool) → or_else o (end_held s hs) ≡ None → (end_held s hs ≡ None → ⊥) → ⊥
  by_first None a ih = ih a
  by_first (Some z) a ih = not_none (sym a)

record_found : (s y : ℕ) (h : Held) (hs : List (ℕ × Held)) (p : List ℕ) → In (y, h) hs → page_at s h.body ≡ Some (Rec p) → record_held s hs ≡ None → ⊥
record_found s y h [] p i e n = i
record_found s y h (k ∷ hs) p (inl q) e n = by_first (record_of (page_at s k.1.body)) (ap record_of (ap (λ (x : ℕ × Held). page_at s x.1.body) (sym q) ∙ e)) n where
  by_first : (o : Option (List ℕ)) → o ≡ Some p → or_else o (record_held s hs) ≡ None → ⊥
  by_first None a b = not_none a
  by_first (Some z) a b = not_none (sym b)
record_found s y h (k ∷ hs) p (inr i) e n = by_first (record_of (page_at s k.1.body)) n (record_found s y h hs p i e) where
  by_first : (o : Option (List ℕ)) → or_else o (record_held s hs) ≡ None → (record_held s hs ≡ None → ⊥) → ⊥
  by_first None a ih = ih a
  by_first (Some z) a ih = not_none (sym a)

-- ---- nothing to give or to ask ----
record Nothing (s : ℕ) (misses : Bool) (hs : List (ℕ × Held)) : Type 0 where
  trim : trim_held hs < s
  no_record : record_held s hs ≡ None
  no_hole : hole_held s hs ≡ false
  no_plug : plug_held s hs ≡ false
  no_copy : (withheld_held s hs && misses) ≡ false
  no_end : end_held s hs ≡ None

module _ (s : ℕ) (misses may : Bool) (set : List ℕ) (hs : List (ℕ × Held)) where
  abbrev by_loss : Verdict
  by_loss = loss_verdict s may set hs

  at_end : (o : Option Bool) → end_verdict s o by_loss ≡ NotYet → o ≡ None
  at_end None h = refl
  at_end (Some loss) h = absurd cc

  at_copy : (b : Bool) (v : Verdict) → (if b then AsksAll else v) ≡ NotYet → (b ≡ false) × (v ≡ NotYet)
  at_copy true v h = absurd cc
  at_copy false v h = (refl, h)

  at_entry : (o : Option (List ℕ)) (hole plug : Bool) (v : Verdict) → entry_verdict o hole plug v ≡ NotYet → (o ≡ None) × (hole ≡ false) × (plug ≡ false) × (v ≡ NotYet)
  at_entry (Some p) hole plug v h = absurd cc
  at_entry None true plug v h = absurd cc
  at_entry None false true v h = absurd cc
  at_entry None false false v h = (refl, refl, refl, h)

  at_trim : (b : Bool) (v : Verdict) → (if b then Gives (TrimTo (trim_held hs)) else v) ≡ NotYet → (b ≡ false) × (v ≡ NotYet)
  at_trim true v h = absurd cc
  at_trim false v h = (refl, h)

  nothing : decide s misses may set hs ≡ NotYet → Nothing s misses hs
  unfolding decide
  nothing h =
      let t = at_trim (nat_le s (trim_held hs)) _ h in
      let e = at_entry (record_held s hs) (hole_held s hs) (plug_held s hs) _ t.1 in
      let k = at_copy (withheld_held s hs && misses) _ e.3 in
      record { trim = leb-false s (trim_held hs) t.0; no_record = e.0; no_hole = e.1; no_plug = e.2; no_copy = k.0; no_end = at_end (end_held s hs) k.1 }

tells_not : (s : ℕ) (misses : Bool) (hs : List (ℕ × Held)) (y : ℕ) (h : Held) → Nothing s misses hs → In (y, h) hs → Tells s h.body → ⊥
tells_not s m hs y h N i (trimmed l) = let a = trim_least y h hs i in let b = N.trim in omega arith
tells_not s m hs y h N i (ended loss e) = end_found s y h hs loss i e N.no_end
tells_not s m hs y h N i (shows x e b w) = by_what x e b w where
  by_what : (x : What) → page_at s h.body ≡ Some x → is_bridge x ≡ false → is_withheld x ≡ false → ⊥
  by_what (Rec p) e b w = record_found s y h hs p i e N.no_record
  by_what Hole e b w = not_both (hole_held s hs) (any_from (λ (k : ℕ × Held). is_hole (page_at s k.1.body)) (y, h) hs i (ap is_hole e)) N.no_hole
  by_what Plug e b w = not_both (plug_held s hs) (any_from (λ (k : ℕ × Held). is_plug (page_at s k.1.body)) (y, h) hs i (ap is_plug e)) N.no_plug
  by_what Bridge e b w = absurd cc
  by_what Withheld e b w = absurd cc

-- ---- a reader ----
module _ (d : Reader) (open_still : is_finished d ≡ false) (none : verdict d ≡ NotYet) where
  open_verdict : decide d.next (misses d d.senders) (may_confirm d) (seen_nodes d.seen) d.held ≡ NotYet
  open_verdict = sym (ap (λ t. if t then NotYet else decide d.next (misses d d.senders) (may_confirm d) (seen_nodes d.seen) d.held) open_still) ∙ none

  silent : Nothing d.next (misses d d.senders) d.held
  silent = nothing d.next (misses d d.senders) (may_confirm d) (seen_nodes d.seen) d.held open_verdict

  -- the number isn't 0, which lies at or below any trim
  pub none_zero : 0 < d.next
  none_zero = let a = silent.trim in omega arith

  -- no answer that it holds tells what the number is
  pub none_tells : (y : ℕ) (h : Held) → find y d.held ≡ Some h → Tells d.next h.body → ⊥
  none_tells y h f t = tells_not d.next (misses d d.senders) d.held y h silent (find_in y d.held h f) t

  -- and none withholds it that the node lacks which is to send it
  pub none_hides : (y : ℕ) (h : Held) → find y d.held ≡ Some h → page_at d.next h.body ≡ Some Withheld → (o : Senders) → d.senders ≡ Some o → (w : ℕ) → sender o.set o.excluded d.next ≡ Some w
      → (k : Held) → find w d.held ≡ Some k → k.round ≡ d.round → sends_nothing d.next k.body ≡ true → ⊥
  none_hides y h f e o so w sw k g r t = not_both (withheld_held d.next d.held && misses d d.senders) (and_from _ _ hidden missed) silent.no_copy where
    hidden : withheld_held d.next d.held ≡ true
    hidden = any_from (λ (x : ℕ × Held). reading.is_withheld (page_at d.next x.1.body)) (y, h) d.held (find_in y d.held h f) (ap reading.is_withheld e)

    missed : misses d d.senders ≡ true
    missed = ap (misses d) so ∙ (ap (λ v. lacks_copy d.round d.next v d.held) sw ∙ (ap (sent_nothing d.round d.next) g ∙ and_from _ _ (eq-eqb k.round d.round r) t))
