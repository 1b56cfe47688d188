-- Messages that leave a digest spent, and digests of no nodes.
use Rattle.std.proofs.Common.{◌≡◌, ◌<◌, ℕ, ◌+◌, Bool, true, false, not, ◌==◌, nat_lt, nat_le, List, [], length, Option, Some, if◌then◌else◌, refl, ap, sym, ◌∙◌, arith, inl, inr}
use Rattle.std.specs.Prelude.{◌&&◌}
use Rattle.std.proofs.lemmas.Bool.{cases_Bool, cases_lt, and_parts}
use Rattle.std.proofs.lemmas.Bool.Decides.{nat_tests}
use Rattle.ld_lsn.specs.Number.{epoch_of, home_epoch}
use Rattle.ld_ids.specs.declared.set.Spec.{Spec}
use Rattle.ld_ids.specs.Choice.{nodes_of}
use Rattle.ld_msg.specs.declared.msg.Entry.{Entry}
use Rattle.ld_msg.specs.declared.msg.Body.{Body}
use Rattle.ld_msg.specs.declared.msg.Body.TheVariants as bodies
use Rattle.ld_msg.specs.Register.{View}
use Rattle.ld_msg.specs.Digest.{Told, with_page, with_lost, enough, is_spent, plan}
use Rattle.ld_msg.specs.Sequencer as sequencer
use Rattle.ld_msg.specs.Sequencer.{Sequencer, Recovery, Stage, Seals, Stores, Closes, Acts, does_nothing, becomes, by_reply, digests, takes_any, next_ask, stores_plan, seals_on, with_digest, adds_page, after_lost, loses_node, recovery_lost, lost_stage, looks_now}
use Rattle.ld_recovery.specs.Recovering.{counts, told_by, digest_in, is_spent_stage, takes_in, page_told}
use Rattle.ld_recovery.proofs.Replies.{spent_short}

-- ---- no nodes ----

few : (r n : ℕ) → nat_le r n ≡ not (nat_lt n (r + 0))
few r n = elim (cases_lt n r) [
  | inl less ↦ let a : nat_le r n ≡ false = grind (arith, nat_tests) in let b : nat_lt n (r + 0) ≡ true = grind (arith, nat_tests) in a ∙ sym (ap not b)
  | inr more ↦ let a : nat_le r n ≡ true = grind (arith, nat_tests) in let b : nat_lt n (r + 0) ≡ false = grind (arith, nat_tests) in a ∙ sym (ap not b)
]

-- a digest of no nodes is spent, where there are as many as the factor
pub none_spent : (s : Spec) (r n : ℕ) → r ≡ s.r → n ≡ length (nodes_of s) → nat_le r n ≡ is_spent s []
unfolding is_spent enough
none_spent s r n h k = few r n ∙ (ap (λ (x : ℕ). not (nat_lt n (x + 0))) h ∙ ap (λ (x : ℕ). not (nat_lt x (s.r + 0))) k)

none_lost : (y : ℕ) → [] ≡ with_lost y []
unfolding with_lost
none_lost y = refl

pub none_lost_spent : (s : Spec) (y r n : ℕ) → r ≡ s.r → n ≡ length (nodes_of s) → nat_le r n ≡ is_spent s (with_lost y [])
none_lost_spent s y r n h k = none_spent s r n h k ∙ ap (is_spent s) (none_lost y)

-- ---- what a definition does at a message that leaves a digest spent ----

-- a digest with one answer more, which is spent: the register is looked at
spent_looks : (looks : ℕ → View) (a : Acts) (v : Recovery) (d : List Told) (asks : List (ℕ × Body)) → is_spent v.spec d ≡ true → with_digest looks a v d asks ≡ looks_now looks a v d
spent_looks looks a v d asks h =
    ap (λ (b : Bool). if b then stores_plan a v (plan v.epoch false d) else if is_spent v.spec d then looks_now looks a v d else seals_on a v d asks) (spent_short v.spec d h)
    ∙ ap (λ (b : Bool). if b then looks_now looks a v d else seals_on a v d asks) h

lost_looks : (looks : ℕ → View) (a : Acts) (v : Recovery) (y : ℕ) (s : Stage) → is_spent_stage v.spec (lost_stage y s) ≡ true → after_lost looks a (recovery_lost y v) (lost_stage y s) ≡ looks_now looks a (recovery_lost y v) (digest_in (lost_stage y s))
lost_looks looks a v y (Seals d) h = spent_looks looks a (recovery_lost y v) (with_lost y d) [] h
lost_looks looks a v y (Stores g) h = absurd cc
lost_looks looks a v y (Closes z short) h = absurd cc

page_looks : (looks : ℕ → View) (a : Acts) (v : Recovery) (y from upto trim lng : ℕ) (es : List Entry) (s : Stage) → takes_in y from s ≡ true → is_spent_stage v.spec (page_told v.epoch y from upto trim lng es s) ≡ true
    → digests looks a v y from upto trim lng es s ≡ looks_now looks a v (digest_in (page_told v.epoch y from upto trim lng es s))
page_looks looks a v y from upto trim lng es (Seals d) t h =
    ap (λ (b : Bool). if b then adds_page looks a v y (with_page v.epoch y from upto trim lng es d) else a) t
    ∙ spent_looks looks a v (with_page v.epoch y from upto trim lng es d) (next_ask y (with_page v.epoch y from upto trim lng es d)) h
page_looks looks a v y from upto trim lng es (Stores g) t h = absurd cc
page_looks looks a v y from upto trim lng es (Closes z short) t h = absurd cc

equal : (x y : ℕ) → (x == y) ≡ true → x ≡ y
equal x y h = grind (arith, nat_tests)

apart : (x y : ℕ) → (x ≡ y → ⊥) → (x == y) ≡ false
apart x y n = elim (cases_Bool (x == y)) [ inl h ↦ absurd (n (equal x y h)) | inr h ↦ h ]

-- the message makes the sequencer look at the register, with what it tells the recovery
abbrev pub LooksNow : (looks : ℕ → View) → Sequencer → ℕ → Body → Recovery → Type 0
LooksNow looks q y b v = by_reply looks (does_nothing q) y b ≡ looks_now looks (does_nothing q) (told_by v y b) (digest_in (told_by v y b).stage)

-- a message that leaves the digest spent makes the sequencer look at the register
pub looks_there : (looks : ℕ → View) (q : Sequencer) (v : Recovery) (y : ℕ) (b : Body) → q.recovery ≡ Some v → v.epoch < q.epoch → (counts v y b && is_spent_stage v.spec (told_by v y b).stage) ≡ true → LooksNow looks q y b v
looks_there looks q v y (bodies.LostHere n round gen end) m l h =
    let p = and_parts (v.epoch == home_epoch n) (is_spent_stage v.spec (lost_stage y v.stage)) h in
    let here : v.epoch ≡ home_epoch n = equal v.epoch (home_epoch n) p.0 in
    let own : (home_epoch n == q.epoch) ≡ false = apart (home_epoch n) q.epoch (λ e. absurd (omega arith)) in
    let a = does_nothing q in
    ap (λ (t : Bool). if t then becomes a (record q { lost = Rattle.ld_table.specs.Words.with_one y q.lost }) else sequencer.in_recovery a (home_epoch n) q.recovery (λ v. loses_node looks a (recovery_lost y v))) own
    ∙ (ap (λ (o : Option Recovery). sequencer.in_recovery a (home_epoch n) o (λ v. loses_node looks a (recovery_lost y v))) m
    ∙ (ap (λ (t : Bool). if t then loses_node looks a (recovery_lost y v) else a) p.0
    ∙ lost_looks looks a v y v.stage p.1))
looks_there looks q v y (bodies.DigestPage from upto trim lng es) m l h =
    let p = and_parts ((v.epoch == epoch_of from) && takes_in y from v.stage) (is_spent_stage v.spec (page_told v.epoch y from upto trim lng es v.stage)) h in
    let t = and_parts (v.epoch == epoch_of from) (takes_in y from v.stage) p.0 in
    let a = does_nothing q in
    ap (λ (o : Option Recovery). sequencer.in_recovery a (epoch_of from) o (λ v. digests looks a v y from upto trim lng es v.stage)) m
    ∙ (ap (λ (b : Bool). if b then digests looks a v y from upto trim lng es v.stage else a) t.0
    ∙ page_looks looks a v y from upto trim lng es v.stage t.1 p.1)
looks_there looks q v y (bodies.Store n g w) m l h = absurd cc
looks_there looks q v y (bodies.Stored n) m l h = absurd cc
looks_there looks q v y (bodies.SealedHere n k) m l h = absurd cc
looks_there looks q v y (bodies.CleanHere n s) m l h = absurd cc
looks_there looks q v y (bodies.TrimmedHere n t) m l h = absurd cc
looks_there looks q v y (bodies.DigestAsk n) m l h = absurd cc
looks_there looks q v y (bodies.Clean e s) m l h = absurd cc
looks_there looks q v y (bodies.Release n) m l h = absurd cc
looks_there looks q v y (bodies.Trim n) m l h = absurd cc
looks_there looks q v y (bodies.ReadAsk ro n) m l h = absurd cc
looks_there looks q v y (bodies.ReadOne ro n set excluded) m l h = absurd cc
looks_there looks q v y (bodies.ReadPage ro n u c es) m l h = absurd cc
looks_there looks q v y (bodies.ReadEnded ro n en lo) m l h = absurd cc
looks_there looks q v y (bodies.ReadTrim ro n t) m l h = absurd cc
looks_there looks q v y (bodies.ReadWait ro n t) m l h = absurd cc
