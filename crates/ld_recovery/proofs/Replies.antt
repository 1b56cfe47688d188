-- What a reply does to a recovery that goes on.
use Rattle.std.proofs.Common.{◌≡◌, inl, inr, ◌≤◌, ◌<◌, ℕ, ◌+◌, ◌-◌, Bool, true, false, not, ◌==◌, nat_lt, nat_le, List, [], ◌++◌, append-nil, Some, None, if◌then◌else◌, refl, ap, sym, ◌∙◌, arith}
use Rattle.std.specs.Prelude.{◌&&◌, ◌||◌}
use Rattle.std.proofs.lemmas.Bool.{cases_Bool}
use Rattle.std.proofs.lemmas.Bool.Decides.{nat_tests}
use Rattle.ld_table.specs.Table.{find}
use Rattle.ld_table.specs.Words.{is_in, with_one}
use Rattle.ld_table.proofs.Laws.{find-empty}
use Rattle.ld_lsn.specs.Number.{epoch_of, home_epoch}
use Rattle.ld_ids.specs.Choice.{nodes_of}
use Rattle.ld_ids.specs.declared.set.Spec.{Spec}
use Rattle.ld_msg.specs.declared.msg.Summary.{Summary}
use Rattle.ld_msg.specs.declared.msg.Entry.{Entry}
use Rattle.ld_msg.specs.declared.msg.Body.{Body}
use Rattle.ld_msg.specs.declared.msg.Body.TheVariants as bodies
use Rattle.ld_msg.specs.Sequencer as sequencer
use Rattle.ld_msg.specs.Register.{Granted, Behind, Overtaken, Fails}
use Rattle.ld_msg.specs.Digest.{Told, with_page, with_asks, with_lost, enough, is_spent, plan}
use Rattle.ld_msg.specs.Sequencer.{takes_any, next_ask, storing_of, planned, stores_plan, seals_on, with_digest, looks_now, adds_page, after_lost, loses_node, closes_ready, retries_stage, retries_appends, next_try, next_wave, digest_asks, item_stores, try_close, tells_clean, after_close, Recovery, Stage, Seals, Stores, Closes, Storing, Acts, does_nothing, by_reply, on_reply, on_retry, acks_append, settles, settled_by, is_fully_ready, is_ready_short, summary_of, recovery_lost, lost_stage, preempt, becomes, to_each, digests}
use Rattle.ld_recovery.specs.Recovering as own
use Rattle.ld_recovery.specs.Recovering.{Recovering, Ending, Goes, IsDone, IsPreempted, is_going, going, as_sequencer, no_looks, goes_on, ended, is_open, is_spent_stage, takes_in, page_told, told_by, spends, replied, replied_with, reply_acts, reply_messages, sent_by, messages, when_going, ending_told, summary_told}

same : {x y : ℕ} → x ≡ y → (x == y) ≡ true
same h = grind (arith, nat_tests)

other_if : (x y : ℕ) (b : Bool) → (x == y) ≡ b → (x ≡ y → ⊥) → (x == y) ≡ false
other_if x y true e h = absurd (h (grind (arith, nat_tests)))
other_if x y false e h = e

other : {x y : ℕ} → (x ≡ y → ⊥) → (x == y) ≡ false
other {x} {y} h = other_if x y (x == y) refl h

abbrev acts0 : Recovering → Acts
acts0 r = does_nothing (as_sequencer r)

-- a reply that leaves no digest spent does what the definition says
pub unspent_value : (r : Recovering) (y : ℕ) (b : Body) → spends r y b ≡ false → replied r y b ≡ when_going r.ending (replied_with r b (reply_acts r y b)) r
unspent_value r y b s = ap (λ (t : Bool). if t then going r (told_by r.recovery y b) else when_going r.ending (replied_with r b (reply_acts r y b)) r) s

unspent_sent : (r : Recovering) (y : ℕ) (b : Body) → spends r y b ≡ false → reply_messages r y b ≡ when_going r.ending (messages r (sent_by r (reply_acts r y b))) []
unspent_sent r y b s = ap (λ (t : Bool). if t then [] else when_going r.ending (messages r (sent_by r (reply_acts r y b))) []) s

-- the acts of a reply in which the epoch stays open
pub value_of : (r : Recovering) (y : ℕ) (b : Body) (a : Acts) → r.ending ≡ Goes → spends r y b ≡ false → by_reply (no_looks r) (acts0 r) y b ≡ a → a.sequencer.lce ≡ r.recovery.epoch - 1 → replied r y b ≡ goes_on r a
unfolding on_reply
value_of r y b a h s k l = unspent_value r y b s ∙ (ap (λ (e : Ending). when_going e (replied_with r b (reply_acts r y b)) r) h ∙ (ap (replied_with r b) k ∙ ap (λ (t : Bool). if t then goes_on r a else ended r (ending_told (summary_told b))) (same l)))

pub sent_of : (r : Recovering) (y : ℕ) (b : Body) (a : Acts) → r.ending ≡ Goes → spends r y b ≡ false → by_reply (no_looks r) (acts0 r) y b ≡ a → a.sequencer.lce ≡ r.recovery.epoch - 1 → reply_messages r y b ≡ messages r (a.asks ++ a.stores)
unfolding on_reply
sent_of r y b a h s k l = unspent_sent r y b s ∙ (ap (λ (e : Ending). when_going e (messages r (sent_by r (reply_acts r y b))) []) h ∙ (ap (λ x. messages r (sent_by r x)) k ∙ ap (λ (t : Bool). messages r (if t then a.asks ++ a.stores else a.cleans)) (same l)))

-- a reply and what comes of it
pub record Replied (r : Recovering) (y : ℕ) (b : Body) (new : Recovering) (bs : List (ℕ × Body)) : Type 0 where
  pub value : replied r y b ≡ new
  pub sent : reply_messages r y b ≡ messages r bs

still : (r : Recovering) → r.ending ≡ Goes → going r r.recovery ≡ r
still r h = ap (λ (e : Ending). record { ballot = r.ballot; recovery = r.recovery; ending = e }) (sym h)

-- nothing is done
quiet : (r : Recovering) (y : ℕ) (b : Body) → r.ending ≡ Goes → spends r y b ≡ false → by_reply (no_looks r) (acts0 r) y b ≡ acts0 r → Replied r y b r []
quiet r y b h s k = record { value = value_of r y b (acts0 r) h s k refl ∙ still r h; sent = sent_of r y b (acts0 r) h s k refl }

abbrev pub with_stage : Recovery → Stage → Recovery
with_stage v s = record { epoch = v.epoch; spec = v.spec; lost = v.lost; stage = s }

-- acts by which the recovery goes on with this, and these messages are sent
record Moves (r : Recovering) (a : Acts) (v : Recovery) (bs : List (ℕ × Body)) : Type 0 where
  value : goes_on r a ≡ going r v
  lce : a.sequencer.lce ≡ r.recovery.epoch - 1
  sent : a.asks ++ a.stores ≡ bs

moves_on : (r : Recovering) (y : ℕ) (b : Body) (a : Acts) (v : Recovery) (bs : List (ℕ × Body)) → r.ending ≡ Goes → spends r y b ≡ false → by_reply (no_looks r) (acts0 r) y b ≡ a → Moves r a v bs → Replied r y b (going r v) bs
moves_on r y b a v bs h s k m = record { value = value_of r y b a h s k m.lce ∙ m.value; sent = sent_of r y b a h s k m.lce ∙ ap (messages r) m.sent }

-- the acts of a stage that stays
stay_moves : (r : Recovering) (s : Stage) → r.recovery.stage ≡ s → Moves r (acts0 r) (with_stage r.recovery s) []
stay_moves r s h = record { value = ap (λ (s : Stage). going r (with_stage r.recovery s)) h; lce = refl; sent = refl }

-- ---- a plan that may be ready ----

abbrev pub closed_in : Spec → List ℕ → ℕ → Storing → Stage
closed_in spec lost ballot g = if is_fully_ready spec g || is_ready_short spec lost g then Closes (summary_of ballot g) (not (is_fully_ready spec g)) else Stores g

-- the acts with these stores
abbrev storing_acts : Recovering → List (ℕ × Body) → Acts
storing_acts r ms = record (acts0 r) { stores = ms }

abbrev ready_acts : Recovering → Recovery → List (ℕ × Body) → Storing → Bool → Bool → Acts
ready_acts r v ms g b c = if b then try_close (becomes (storing_acts r ms) (sequencer.with_stage (as_sequencer r) v (Closes (summary_of r.ballot g) c))) v.epoch (summary_of r.ballot g) c else becomes (storing_acts r ms) (sequencer.with_stage (as_sequencer r) v (Stores g))

moves_if : (r : Recovering) (v : Recovery) (ms : List (ℕ × Body)) (g : Storing) (b c : Bool) → Moves r (ready_acts r v ms g b c) (with_stage v (if b then Closes (summary_of r.ballot g) c else Stores g)) ms
moves_if r v ms g true c = record { value = refl; lce = refl; sent = refl }
moves_if r v ms g false c = record { value = refl; lce = refl; sent = refl }

ready_moves : (r : Recovering) (v : Recovery) (ms : List (ℕ × Body)) (g : Storing) → Moves r (closes_ready (storing_acts r ms) v g) (with_stage v (closed_in v.spec v.lost r.ballot g)) ms
ready_moves r v ms g = moves_if r v ms g (is_fully_ready v.spec g || is_ready_short v.spec v.lost g) (not (is_fully_ready v.spec g))

-- ---- a digest with one answer more ----

abbrev pub gathered_in : Spec → ℕ → List Told → Stage
gathered_in spec epoch d = if enough spec d then Stores (storing_of (plan epoch false d)) else Seals d

abbrev pub gathered_out : Spec → ℕ → List ℕ → List Told → List (ℕ × Body) → List (ℕ × Body)
gathered_out spec epoch lost d asks =
    if enough spec d then item_stores spec lost false (plan epoch false d).lng 0 (planned (plan epoch false d).items)
    else if is_spent spec d then []
    else asks

abbrev digest_acts : Recovering → Recovery → List Told → List (ℕ × Body) → Bool → Bool → Acts
digest_acts r v d asks e s =
    if e then stores_plan (acts0 r) v (plan v.epoch false d)
    else if s then looks_now (no_looks r) (acts0 r) v d
    else seals_on (acts0 r) v d asks

digest_if : (r : Recovering) (v : Recovery) (d : List Told) (asks : List (ℕ × Body)) (e s : Bool) → s ≡ false → Moves r (digest_acts r v d asks e s) (with_stage v (if e then Stores (storing_of (plan v.epoch false d)) else Seals d))
    (if e then item_stores v.spec v.lost false (plan v.epoch false d).lng 0 (planned (plan v.epoch false d).items) else if s then [] else asks)
unfolding plan
digest_if r v d asks true s h = record { value = refl; lce = refl; sent = refl }
digest_if r v d asks false true h = absurd cc
digest_if r v d asks false false h = record { value = refl; lce = refl; sent = append-nil asks }

digest_moves : (r : Recovering) (v : Recovery) (d : List Told) (asks : List (ℕ × Body)) → is_spent v.spec d ≡ false → Moves r (with_digest (no_looks r) (acts0 r) v d asks) (with_stage v (gathered_in v.spec v.epoch d)) (gathered_out v.spec v.epoch v.lost d asks)
digest_moves r v d asks h = digest_if r v d asks (enough v.spec d) (is_spent v.spec d) h

not_both : (a b : Bool) → (a && not b) ≡ true → b ≡ false
not_both true true h = absurd cc
not_both true false h = refl
not_both false b h = absurd cc

pub spent_short : (spec : Spec) (d : List Told) → is_spent spec d ≡ true → enough spec d ≡ false
unfolding is_spent
spent_short spec d h = not_both _ (enough spec d) h

spent_in : (spec : Spec) (epoch : ℕ) (d : List Told) → is_spent spec d ≡ true → gathered_in spec epoch d ≡ Seals d
spent_in spec epoch d h = ap (λ (b : Bool). if b then Stores (storing_of (plan epoch false d)) else Seals d) (spent_short spec d h)

spent_out : (spec : Spec) (epoch : ℕ) (lost : List ℕ) (d : List Told) (asks : List (ℕ × Body)) → is_spent spec d ≡ true → gathered_out spec epoch lost d asks ≡ []
spent_out spec epoch lost d asks h =
    ap (λ (b : Bool). if b then item_stores spec lost false (plan epoch false d).lng 0 (planned (plan epoch false d).items) else if is_spent spec d then [] else asks) (spent_short spec d h)
    ∙ ap (λ (b : Bool). if b then [] else asks) h

-- ---- stored, trimmed ----

abbrev pub settled_in : Spec → List ℕ → ℕ → (ℕ → Bool) → ℕ → Stage → Stage
settled_in spec lost ballot p y (Seals d) = Seals d
settled_in spec lost ballot p y (Stores g) = closed_in spec lost ballot (settled_by p y g)
settled_in spec lost ballot p y (Closes s short) = Closes s short

moved : (r : Recovering) (p : ℕ → Bool) (y : ℕ) (s : Stage) → r.recovery.stage ≡ s → Moves r (settles (acts0 r) r.recovery p y s) (with_stage r.recovery (settled_in r.recovery.spec r.recovery.lost r.ballot p y s)) []
moved r p y (Seals d) h = stay_moves r (Seals d) h
moved r p y (Stores g) h = ready_moves r r.recovery [] (settled_by p y g)
moved r p y (Closes s short) h = stay_moves r (Closes s short) h

abbrev own_acts : Recovering → ℕ → ℕ → Bool → Acts
own_acts r y n m = if m then acks_append (acts0 r) y n (find n []) else acts0 r

abbrev settled_acts : Recovering → (ℕ → Bool) → ℕ → Bool → Acts
settled_acts r p y m = if m then settles (acts0 r) r.recovery p y r.recovery.stage else acts0 r

-- whether it is of the own epoch, whether it is of the recovered one, and whether the node is of the set
abbrev stored_acts : Recovering → ℕ → ℕ → Bool → Bool → Bool → Acts
stored_acts r y n b c m = if b then own_acts r y n m else if c then settled_acts r (λ s. s == n) y m else acts0 r

own_quiet : (r : Recovering) (y n : ℕ) (m : Bool) → own_acts r y n m ≡ acts0 r
own_quiet r y n true = ap (acks_append (acts0 r) y n) (find-empty n)
own_quiet r y n false = refl

stored_quiet : (r : Recovering) (y n : ℕ) (b m : Bool) → stored_acts r y n b false m ≡ acts0 r
stored_quiet r y n true m = own_quiet r y n m
stored_quiet r y n false m = refl

-- what a stranger stored or trimmed does nothing
stranger_quiet : (r : Recovering) (y n : ℕ) (b c : Bool) → stored_acts r y n b c false ≡ acts0 r
stranger_quiet r y n true c = refl
stranger_quiet r y n false true = refl
stranger_quiet r y n false false = refl

trim_quiet : (r : Recovering) (b : Bool) → (if b then acts0 r else acts0 r) ≡ acts0 r
trim_quiet r true = refl
trim_quiet r false = refl

pub stored_by_stranger : (r : Recovering) (y n : ℕ) → r.ending ≡ Goes → is_in y (nodes_of r.recovery.spec) ≡ false → Replied r y (bodies.Stored n) r []
stored_by_stranger r y n h m = quiet r y (bodies.Stored n) h refl
    (ap (stored_acts r y n (epoch_of n == r.ballot) (r.recovery.epoch == epoch_of n)) m ∙ stranger_quiet r y n (epoch_of n == r.ballot) (r.recovery.epoch == epoch_of n))

pub trimmed_by_stranger : (r : Recovering) (y n t : ℕ) → r.ending ≡ Goes → is_in y (nodes_of r.recovery.spec) ≡ false → Replied r y (bodies.TrimmedHere n t) r []
trimmed_by_stranger r y n t h m = quiet r y (bodies.TrimmedHere n t) h refl
    (ap (λ (b : Bool). if r.recovery.epoch == epoch_of n then settled_acts r (λ s. nat_le s t) y b else acts0 r) m ∙ trim_quiet r (r.recovery.epoch == epoch_of n))

pub stored_elsewhere : (r : Recovering) (y n : ℕ) → r.ending ≡ Goes → (epoch_of n ≡ r.recovery.epoch → ⊥) → Replied r y (bodies.Stored n) r []
stored_elsewhere r y n h o = quiet r y (bodies.Stored n) h refl
    (ap (λ (c : Bool). stored_acts r y n (epoch_of n == r.ballot) c (is_in y (nodes_of r.recovery.spec))) (other (λ e. o (sym e))) ∙ stored_quiet r y n (epoch_of n == r.ballot) (is_in y (nodes_of r.recovery.spec)))

settles_here : (r : Recovering) (y : ℕ) (b : Body) (p : ℕ → Bool) → r.ending ≡ Goes → spends r y b ≡ false → by_reply (no_looks r) (acts0 r) y b ≡ settles (acts0 r) r.recovery p y r.recovery.stage → Replied r y b (going r (with_stage r.recovery (settled_in r.recovery.spec r.recovery.lost r.ballot p y r.recovery.stage))) []
settles_here r y b p h s k = moves_on r y b _ _ [] h s k (moved r p y r.recovery.stage refl)

pub stored_here : (r : Recovering) (y n : ℕ) → r.ending ≡ Goes → is_in y (nodes_of r.recovery.spec) ≡ true → epoch_of n ≡ r.recovery.epoch → r.recovery.epoch < r.ballot → Replied r y (bodies.Stored n) (going r (with_stage r.recovery (settled_in r.recovery.spec r.recovery.lost r.ballot (λ s. s == n) y r.recovery.stage))) []
stored_here r y n h m o l =
    settles_here r y (bodies.Stored n) (λ s. s == n) h refl
    (ap (λ (b : Bool). stored_acts r y n b (r.recovery.epoch == epoch_of n) (is_in y (nodes_of r.recovery.spec))) (other (λ e. absurd (omega arith)))
    ∙ (ap (λ (c : Bool). stored_acts r y n false c (is_in y (nodes_of r.recovery.spec))) (same (sym o)) ∙ ap (stored_acts r y n false true) m))

pub trimmed_elsewhere : (r : Recovering) (y n t : ℕ) → r.ending ≡ Goes → (epoch_of n ≡ r.recovery.epoch → ⊥) → Replied r y (bodies.TrimmedHere n t) r []
trimmed_elsewhere r y n t h o = quiet r y (bodies.TrimmedHere n t) h refl (ap (λ (b : Bool). if b then settled_acts r (λ s. nat_le s t) y (is_in y (nodes_of r.recovery.spec)) else acts0 r) (other (λ e. o (sym e))))

pub trimmed_here : (r : Recovering) (y n t : ℕ) → r.ending ≡ Goes → is_in y (nodes_of r.recovery.spec) ≡ true → epoch_of n ≡ r.recovery.epoch → Replied r y (bodies.TrimmedHere n t) (going r (with_stage r.recovery (settled_in r.recovery.spec r.recovery.lost r.ballot (λ s. nat_le s t) y r.recovery.stage))) []
trimmed_here r y n t h m o = settles_here r y (bodies.TrimmedHere n t) (λ s. nat_le s t) h refl
    (ap (λ (b : Bool). if b then settled_acts r (λ s. nat_le s t) y (is_in y (nodes_of r.recovery.spec)) else acts0 r) (same (sym o)) ∙ ap (settled_acts r (λ s. nat_le s t) y) m)

-- ---- sealed ----

abbrev pub preempted : Recovering → ℕ → Recovering
preempted r k = record { ballot = r.ballot; recovery = r.recovery; ending = IsPreempted k }

preempts : (r : Recovering) (y : ℕ) (b : Body) (k : ℕ) → r.ending ≡ Goes → spends r y b ≡ false → by_reply (no_looks r) (acts0 r) y b ≡ preempt (acts0 r) k → Replied r y b (preempted r k) []
preempts r y b k h s e = record { value = value_of r y b _ h s e refl; sent = sent_of r y b _ h s e refl }

pub sealed_above : (r : Recovering) (y n k : ℕ) → r.ending ≡ Goes → r.ballot < k → Replied r y (bodies.SealedHere n k) (preempted r k) []
sealed_above r y n k h l = preempts r y (bodies.SealedHere n k) k h refl (ap (λ (b : Bool). if b then preempt (acts0 r) k else acts0 r) (let t : nat_lt r.ballot k ≡ true = grind (arith, nat_tests) in t))

pub sealed_below : (r : Recovering) (y n k : ℕ) → r.ending ≡ Goes → k ≤ r.ballot → Replied r y (bodies.SealedHere n k) r []
sealed_below r y n k h l = quiet r y (bodies.SealedHere n k) h refl (ap (λ (b : Bool). if b then preempt (acts0 r) k else acts0 r) (let t : nat_lt r.ballot k ≡ false = grind (arith, nat_tests) in t))

-- ---- lost ----

abbrev pub lost_in : Spec → ℕ → ℕ → List ℕ → ℕ → Stage → Stage
lost_in spec epoch ballot lost y (Seals d) = gathered_in spec epoch (with_lost y d)
lost_in spec epoch ballot lost y (Stores g) = closed_in spec lost ballot g
lost_in spec epoch ballot lost y (Closes s short) = Closes s short

abbrev pub lost_out : Spec → ℕ → List ℕ → ℕ → Stage → List (ℕ × Body)
lost_out spec epoch lost y (Seals d) = gathered_out spec epoch lost (with_lost y d) []
lost_out spec epoch lost y (Stores g) = []
lost_out spec epoch lost y (Closes s short) = []

-- the recovery, and the nodes that are lost, with one more
abbrev pub lost_too : Recovering → ℕ → Recovery
lost_too r y = recovery_lost y r.recovery

lost_moves : (r : Recovering) (y : ℕ) (s : Stage) → is_spent_stage r.recovery.spec (lost_stage y s) ≡ false
    → Moves r (after_lost (no_looks r) (acts0 r) (lost_too r y) (lost_stage y s)) (with_stage (lost_too r y) (lost_in r.recovery.spec r.recovery.epoch r.ballot (with_one y r.recovery.lost) y s)) (lost_out r.recovery.spec r.recovery.epoch (with_one y r.recovery.lost) y s)
lost_moves r y (Seals d) h = digest_moves r (lost_too r y) (with_lost y d) [] h
lost_moves r y (Stores g) h = ready_moves r (lost_too r y) [] g
lost_moves r y (Closes s short) h = record { value = refl; lce = refl; sent = refl }

lost_spent : (spec : Spec) (epoch ballot : ℕ) (lost : List ℕ) (y : ℕ) (s : Stage) → is_spent_stage spec (lost_stage y s) ≡ true → lost_in spec epoch ballot lost y s ≡ lost_stage y s
lost_spent spec epoch ballot lost y (Seals d) h = spent_in spec epoch (with_lost y d) h
lost_spent spec epoch ballot lost y (Stores g) h = absurd cc
lost_spent spec epoch ballot lost y (Closes s short) h = absurd cc

lost_quiet : (spec : Spec) (epoch : ℕ) (lost : List ℕ) (y : ℕ) (s : Stage) → is_spent_stage spec (lost_stage y s) ≡ true → lost_out spec epoch lost y s ≡ []
lost_quiet spec epoch lost y (Seals d) h = spent_out spec epoch lost (with_lost y d) [] h
lost_quiet spec epoch lost y (Stores g) h = refl
lost_quiet spec epoch lost y (Closes s short) h = refl

abbrev lost_acts : Recovering → ℕ → ℕ → Bool → Bool → Acts
lost_acts r y n b c = if b then becomes (acts0 r) (record (as_sequencer r) { lost = with_one y [] }) else if c then loses_node (no_looks r) (acts0 r) (lost_too r y) else acts0 r

-- whether a message spends the digest, where it counts and the recovery goes on
spends_if : (x : Bool) (e : Ending) → e ≡ Goes → (true && (x && is_going e)) ≡ x
spends_if true e h = ap is_going h
spends_if false e h = refl

pub lost_spends : (r : Recovering) (y n round gen end : ℕ) (b : Bool) → r.ending ≡ Goes → (r.recovery.epoch == home_epoch n) ≡ true → is_spent_stage r.recovery.spec (lost_stage y r.recovery.stage) ≡ b → spends r y (bodies.LostHere n round gen end) ≡ b
lost_spends r y n round gen end b h e k =
    ap (λ (t : Bool). t && (is_spent_stage r.recovery.spec (lost_stage y r.recovery.stage) && is_going r.ending)) e ∙ (spends_if (is_spent_stage r.recovery.spec (lost_stage y r.recovery.stage)) r.ending h ∙ k)

elsewhere_if : (r : Recovering) (y n round gen end : ℕ) (b c : Bool) → r.ending ≡ Goes → spends r y (bodies.LostHere n round gen end) ≡ false → (home_epoch n == r.ballot) ≡ b → (r.recovery.epoch == home_epoch n) ≡ c → c ≡ false → Replied r y (bodies.LostHere n round gen end) r []
elsewhere_if r y n round gen end true c h s e f z =
    let k : by_reply (no_looks r) (acts0 r) y (bodies.LostHere n round gen end) ≡ lost_acts r y n true c = ap (λ (b : Bool). lost_acts r y n b (r.recovery.epoch == home_epoch n)) e in
    record { value = value_of r y (bodies.LostHere n round gen end) _ h s k refl ∙ still r h; sent = sent_of r y (bodies.LostHere n round gen end) _ h s k refl }
elsewhere_if r y n round gen end false c h s e f z = quiet r y (bodies.LostHere n round gen end) h s (ap (λ (b : Bool). lost_acts r y n b (r.recovery.epoch == home_epoch n)) e ∙ ap (λ (c : Bool). lost_acts r y n false c) (f ∙ z))

pub lost_elsewhere : (r : Recovering) (y n round gen end : ℕ) → r.ending ≡ Goes → (home_epoch n ≡ r.recovery.epoch → ⊥) → Replied r y (bodies.LostHere n round gen end) r []
lost_elsewhere r y n round gen end h o =
    let c : (r.recovery.epoch == home_epoch n) ≡ false = other (λ e. o (sym e)) in
    elsewhere_if r y n round gen end (home_epoch n == r.ballot) (r.recovery.epoch == home_epoch n) h
    (ap (λ (t : Bool). t && (is_spent_stage r.recovery.spec (lost_stage y r.recovery.stage) && is_going r.ending)) c) refl refl c

pub lost_here : (r : Recovering) (y n round gen end : ℕ) → r.ending ≡ Goes → home_epoch n ≡ r.recovery.epoch → r.recovery.epoch < r.ballot
    → Replied r y (bodies.LostHere n round gen end) (going r (with_stage (lost_too r y) (lost_in r.recovery.spec r.recovery.epoch r.ballot (with_one y r.recovery.lost) y r.recovery.stage))) (lost_out r.recovery.spec r.recovery.epoch (with_one y r.recovery.lost) y r.recovery.stage)
lost_here r y n round gen end h o l =
    let b = bodies.LostHere n round gen end in
    let c : (r.recovery.epoch == home_epoch n) ≡ true = same (sym o) in
    elim (cases_Bool (is_spent_stage r.recovery.spec (lost_stage y r.recovery.stage))) [
      | inl spent ↦
          let s : spends r y b ≡ true = lost_spends r y n round gen end true h c spent in
          record {
            value = ap (λ (t : Bool). if t then going r (told_by r.recovery y b) else when_going r.ending (replied_with r b (reply_acts r y b)) r) s
                ∙ ap (λ (x : Stage). going r (with_stage (lost_too r y) x)) (sym (lost_spent r.recovery.spec r.recovery.epoch r.ballot (with_one y r.recovery.lost) y r.recovery.stage spent));
            sent = ap (λ (t : Bool). if t then [] else when_going r.ending (messages r (sent_by r (reply_acts r y b))) []) s
                ∙ ap (messages r) (sym (lost_quiet r.recovery.spec r.recovery.epoch (with_one y r.recovery.lost) y r.recovery.stage spent));
          }
      | inr unspent ↦
          let s : spends r y b ≡ false = lost_spends r y n round gen end false h c unspent in
          let k : by_reply (no_looks r) (acts0 r) y b ≡ lost_acts r y n false true =
          ap (λ (t : Bool). lost_acts r y n t (r.recovery.epoch == home_epoch n)) (other (λ e. absurd (omega arith))) ∙ ap (λ (t : Bool). lost_acts r y n false t) c in
          moves_on r y b _ _ _ h s k (lost_moves r y r.recovery.stage unspent)
    ]

-- ---- clean ----

abbrev clean_acts : Recovering → ℕ → Summary → Bool → Bool → Acts
clean_acts r n s b c = if b then preempt (acts0 r) s.ballot else if c then sequencer.goes_on (no_looks r) (tells_clean (acts0 r) r.recovery.epoch s) r.recovery.epoch else acts0 r

pub clean_own : (r : Recovering) (y n : ℕ) (s : Summary) → r.ending ≡ Goes → home_epoch n ≡ r.ballot → Replied r y (bodies.CleanHere n s) (preempted r s.ballot) []
clean_own r y n s h o = preempts r y (bodies.CleanHere n s) s.ballot h refl (ap (λ (b : Bool). clean_acts r n s b (r.recovery.epoch == home_epoch n)) (same o))

pub clean_elsewhere : (r : Recovering) (y n : ℕ) (s : Summary) → r.ending ≡ Goes → (home_epoch n ≡ r.ballot → ⊥) → (home_epoch n ≡ r.recovery.epoch → ⊥) → Replied r y (bodies.CleanHere n s) r []
clean_elsewhere r y n s h o e = quiet r y (bodies.CleanHere n s) h refl (ap (λ (b : Bool). clean_acts r n s b (r.recovery.epoch == home_epoch n)) (other o) ∙ ap (λ (c : Bool). clean_acts r n s false c) (other (λ x. e (sym x))))

abbrev pub done_with : Recovering → Summary → Recovering
done_with r s = record { ballot = r.ballot; recovery = r.recovery; ending = IsDone s }

pub clean_here : (r : Recovering) (y n : ℕ) (s : Summary) → r.ending ≡ Goes → (home_epoch n ≡ r.ballot → ⊥) → home_epoch n ≡ r.recovery.epoch → 1 ≤ r.recovery.epoch → Replied r y (bodies.CleanHere n s) (done_with r s) (to_each (bodies.Clean r.recovery.epoch s) (nodes_of r.recovery.spec))
unfolding on_reply
clean_here r y n s h o e l =
    let a = sequencer.goes_on (no_looks r) (tells_clean (acts0 r) r.recovery.epoch s) r.recovery.epoch in
    let b = bodies.CleanHere n s in
    let k : by_reply (no_looks r) (acts0 r) y b ≡ a = ap (λ (t : Bool). clean_acts r n s t (r.recovery.epoch == home_epoch n)) (other o) ∙ ap (λ (t : Bool). clean_acts r n s false t) (same (sym e)) in
    let shut : (r.recovery.epoch == r.recovery.epoch - 1) ≡ false = other (λ x. absurd (omega arith)) in
    record {
      value = ap (λ (x : Ending). when_going x (replied_with r b (reply_acts r y b)) r) h ∙ (ap (replied_with r b) k ∙ ap (λ (t : Bool). if t then goes_on r a else done_with r s) shut);
      sent = ap (λ (x : Ending). when_going x (messages r (sent_by r (reply_acts r y b))) []) h ∙ (ap (λ x. messages r (sent_by r x)) k ∙ ap (λ (t : Bool). messages r (if t then a.asks ++ a.stores else a.cleans)) shut);
    }

-- ---- the close ----

pub granted : (r : Recovering) (y : Summary) → own.close_messages r y Granted ≡ messages r (to_each (bodies.Clean r.recovery.epoch y) (nodes_of r.recovery.spec))
unfolding after_close
granted r y = refl

behind_if : (r : Recovering) (l : ℕ) (b : Bool) → (if b then preempt (acts0 r) (l + 1) else sequencer.goes_on (no_looks r) (acts0 r) l).sequencer.preempted ≡ (if b then Some (l + 1) else None)
behind_if r l true = refl
behind_if r l false = refl

behind_quiet : (r : Recovering) (l : ℕ) (b : Bool) → (if b then preempt (acts0 r) (l + 1) else sequencer.goes_on (no_looks r) (acts0 r) l).cleans ≡ []
behind_quiet r l true = refl
behind_quiet r l false = refl

pub behind_ends : (r : Recovering) (y : Summary) (l : ℕ) → own.ending_closed r y (Behind l) ≡ own.ending_behind l (if nat_le r.ballot l then Some (l + 1) else None)
unfolding after_close
behind_ends r y l = ap (own.ending_behind l) (behind_if r l (nat_le r.ballot l))

pub behind_sends : (r : Recovering) (y : Summary) (l : ℕ) → own.close_messages r y (Behind l) ≡ []
unfolding after_close
behind_sends r y l = ap (messages r) (behind_quiet r l (nat_le r.ballot l))

pub overtaken_sends : (r : Recovering) (y : Summary) (k : ℕ) → own.close_messages r y (Overtaken k) ≡ []
unfolding after_close
overtaken_sends r y k = refl

pub fails_sends : (r : Recovering) (y : Summary) → own.close_messages r y Fails ≡ []
unfolding after_close
fails_sends r y = refl

-- ---- other bodies ----

pub other_body : (r : Recovering) (y : ℕ) (b : Body) → r.ending ≡ Goes → ((n : ℕ) → b ≡ bodies.Stored n → ⊥) → ((n k : ℕ) → b ≡ bodies.SealedHere n k → ⊥) → ((n ro g e : ℕ) → b ≡ bodies.LostHere n ro g e → ⊥) → ((n : ℕ) (s : Summary) → b ≡ bodies.CleanHere n s → ⊥) → ((n t : ℕ) → b ≡ bodies.TrimmedHere n t → ⊥) → ((f u t l : ℕ) (es : List Entry) → b ≡ bodies.DigestPage f u t l es → ⊥) → Replied r y b r []
other_body r y (bodies.Store n l w) h a b c d e f = quiet r y (bodies.Store n l w) h refl refl
other_body r y (bodies.Stored n) h a b c d e f = absurd (a n refl)
other_body r y (bodies.SealedHere n k) h a b c d e f = absurd (b n k refl)
other_body r y (bodies.LostHere n ro g en) h a b c d e f = absurd (c n ro g en refl)
other_body r y (bodies.CleanHere n s) h a b c d e f = absurd (d n s refl)
other_body r y (bodies.TrimmedHere n t) h a b c d e f = absurd (e n t refl)
other_body r y (bodies.DigestAsk n) h a b c d e f = quiet r y (bodies.DigestAsk n) h refl refl
other_body r y (bodies.DigestPage fr u t l es) h a b c d e f = absurd (f fr u t l es refl)
other_body r y (bodies.Clean ep s) h a b c d e f = quiet r y (bodies.Clean ep s) h refl refl
other_body r y (bodies.Release n) h a b c d e f = quiet r y (bodies.Release n) h refl refl
other_body r y (bodies.Trim n) h a b c d e f = quiet r y (bodies.Trim n) h refl refl
other_body r y (bodies.ReadAsk ro n) h a b c d e f = quiet r y (bodies.ReadAsk ro n) h refl refl
other_body r y (bodies.ReadOne ro n set excluded) h a b c d e f = quiet r y (bodies.ReadOne ro n set excluded) h refl refl
other_body r y (bodies.ReadPage ro n u cl es) h a b c d e f = quiet r y (bodies.ReadPage ro n u cl es) h refl refl
other_body r y (bodies.ReadEnded ro n en lo) h a b c d e f = quiet r y (bodies.ReadEnded ro n en lo) h refl refl
other_body r y (bodies.ReadTrim ro n t) h a b c d e f = quiet r y (bodies.ReadTrim ro n t) h refl refl
other_body r y (bodies.ReadWait ro n t) h a b c d e f = quiet r y (bodies.ReadWait ro n t) h refl refl

-- ---- a retry ----

abbrev pub again : Spec → ℕ → List ℕ → ℕ → Stage → Stage
again spec epoch lost ballot (Seals d) = if is_spent spec d then Seals d else Seals (with_asks epoch d)
again spec epoch lost ballot (Stores g) = closed_in spec lost ballot (next_try g)
again spec epoch lost ballot (Closes y short) = Closes y short

abbrev pub again_sends : Spec → ℕ → List ℕ → Stage → List (ℕ × Body)
again_sends spec epoch lost (Seals d) = if is_spent spec d then [] else digest_asks (with_asks epoch d)
again_sends spec epoch lost (Stores g) = item_stores spec lost g.loss g.lng (next_wave g.wave) g.items
again_sends spec epoch lost (Closes y short) = []

abbrev again_acts : Recovering → Stage → Acts
again_acts r s = retries_stage (no_looks r) (retries_appends (acts0 r)) r.recovery s

again_spent : (spec : Spec) (epoch : ℕ) (lost : List ℕ) (ballot : ℕ) (s : Stage) → is_spent_stage spec s ≡ true → again spec epoch lost ballot s ≡ s
again_spent spec epoch lost ballot (Seals d) h = ap (λ (b : Bool). if b then Seals d else Seals (with_asks epoch d)) h
again_spent spec epoch lost ballot (Stores g) h = absurd cc
again_spent spec epoch lost ballot (Closes y short) h = absurd cc

again_quiet : (spec : Spec) (epoch : ℕ) (lost : List ℕ) (s : Stage) → is_spent_stage spec s ≡ true → again_sends spec epoch lost s ≡ []
again_quiet spec epoch lost (Seals d) h = ap (λ (b : Bool). if b then [] else digest_asks (with_asks epoch d)) h
again_quiet spec epoch lost (Stores g) h = absurd cc
again_quiet spec epoch lost (Closes y short) h = absurd cc

-- the acts of a digest that is asked again
abbrev asked_acts : Recovering → List Told → Bool → Acts
asked_acts r d b =
    if b then sequencer.with_stores [] (looks_now (no_looks r) (acts0 r) r.recovery d)
    else sequencer.asks_again (acts0 r) r.recovery (with_asks r.recovery.epoch d)

asked_if : (r : Recovering) (d : List Told) (b : Bool) → b ≡ false → Moves r (asked_acts r d b) (with_stage r.recovery (if b then Seals d else Seals (with_asks r.recovery.epoch d))) (if b then [] else digest_asks (with_asks r.recovery.epoch d))
asked_if r d true h = absurd cc
asked_if r d false h = record { value = refl; lce = refl; sent = append-nil (digest_asks (with_asks r.recovery.epoch d)) }

to_moves : (r : Recovering) (a : Acts) (v : Recovery) (bs cs : List (ℕ × Body)) → Moves r a v bs → bs ≡ cs → Moves r a v cs
to_moves r a v bs cs m e = record { value = m.value; lce = m.lce; sent = m.sent ∙ e }

again_moves : (r : Recovering) (s : Stage) → r.recovery.stage ≡ s → is_spent_stage r.recovery.spec s ≡ false
    → Moves r (again_acts r s) (with_stage r.recovery (again r.recovery.spec r.recovery.epoch r.recovery.lost r.ballot s)) (again_sends r.recovery.spec r.recovery.epoch r.recovery.lost s)
again_moves r (Seals d) h n = asked_if r d (is_spent r.recovery.spec d) n
again_moves r (Stores g) h n =
    let ms = item_stores r.recovery.spec r.recovery.lost g.loss g.lng (next_wave g.wave) g.items in
    to_moves r _ _ (ms ++ []) ms (ready_moves r r.recovery (ms ++ []) (next_try g)) (append-nil ms)
again_moves r (Closes y short) h n = record { value = ap (λ (s : Stage). going r (with_stage r.recovery s)) h; lce = refl; sent = refl }

-- whether the digest of a recovery that goes on is spent
spent_if : (e : Ending) (x : Bool) → e ≡ Goes → (is_going e && x) ≡ x
spent_if e x h = ap (λ (z : Ending). is_going z && x) h

abbrev retried_acts : Recovering → Acts
retried_acts r = on_retry (no_looks r) (as_sequencer r)

pub retried_is : (r : Recovering) → r.ending ≡ Goes → own.retried r ≡ going r (with_stage r.recovery (again r.recovery.spec r.recovery.epoch r.recovery.lost r.ballot r.recovery.stage))
unfolding on_retry
retried_is r h = elim (cases_Bool (is_spent_stage r.recovery.spec r.recovery.stage)) [
  | inl spent ↦
      ap (λ (t : Bool). if t then r else when_going r.ending (goes_on r (retried_acts r)) r) (spent_if r.ending (is_spent_stage r.recovery.spec r.recovery.stage) h ∙ spent)
      ∙ (sym (still r h) ∙ ap (λ (s : Stage). going r (with_stage r.recovery s)) (sym (again_spent r.recovery.spec r.recovery.epoch r.recovery.lost r.ballot r.recovery.stage spent)))
  | inr unspent ↦
      ap (λ (t : Bool). if t then r else when_going r.ending (goes_on r (retried_acts r)) r) (spent_if r.ending (is_spent_stage r.recovery.spec r.recovery.stage) h ∙ unspent)
      ∙ (ap (λ (x : Ending). when_going x (goes_on r (retried_acts r)) r) h ∙ (again_moves r r.recovery.stage refl unspent).value)
]

pub retry_sent : (r : Recovering) → r.ending ≡ Goes → own.retry_messages r ≡ messages r (again_sends r.recovery.spec r.recovery.epoch r.recovery.lost r.recovery.stage)
unfolding on_retry
retry_sent r h = elim (cases_Bool (is_spent_stage r.recovery.spec r.recovery.stage)) [
  | inl spent ↦
      ap (λ (t : Bool). if t then [] else when_going r.ending (messages r (sent_by r (retried_acts r))) []) (spent_if r.ending (is_spent_stage r.recovery.spec r.recovery.stage) h ∙ spent)
      ∙ ap (messages r) (sym (again_quiet r.recovery.spec r.recovery.epoch r.recovery.lost r.recovery.stage spent))
  | inr unspent ↦
      let m = again_moves r r.recovery.stage refl unspent in
      let a = again_acts r r.recovery.stage in
      ap (λ (t : Bool). if t then [] else when_going r.ending (messages r (sent_by r (retried_acts r))) []) (spent_if r.ending (is_spent_stage r.recovery.spec r.recovery.stage) h ∙ unspent)
      ∙ (ap (λ (x : Ending). when_going x (messages r (sent_by r (retried_acts r))) []) h
      ∙ (ap (λ (t : Bool). messages r (if t then a.asks ++ a.stores else a.cleans)) (same m.lce) ∙ ap (messages r) m.sent))
]

-- ---- pages ----

abbrev pub page_in : Spec → ℕ → ℕ → ℕ → ℕ → ℕ → ℕ → List Entry → Stage → Stage
page_in spec epoch y from upto trim lng es (Seals d) = if takes_any y from d then gathered_in spec epoch (with_page epoch y from upto trim lng es d) else Seals d
page_in spec epoch y from upto trim lng es (Stores g) = Stores g
page_in spec epoch y from upto trim lng es (Closes s short) = Closes s short

abbrev pub page_out : Spec → ℕ → List ℕ → ℕ → ℕ → ℕ → ℕ → ℕ → List Entry → Stage → List (ℕ × Body)
page_out spec epoch lost y from upto trim lng es (Seals d) = if takes_any y from d then gathered_out spec epoch lost (with_page epoch y from upto trim lng es d) (next_ask y (with_page epoch y from upto trim lng es d)) else []
page_out spec epoch lost y from upto trim lng es (Stores g) = []
page_out spec epoch lost y from upto trim lng es (Closes s short) = []

abbrev page_acts : Recovering → ℕ → List Told → Bool → Acts
page_acts r y new b = if b then with_digest (no_looks r) (acts0 r) r.recovery new (next_ask y new) else acts0 r

page_if : (r : Recovering) (y : ℕ) (d new : List Told) (b : Bool) → r.recovery.stage ≡ Seals d → (b && is_spent r.recovery.spec new) ≡ false
    → Moves r (page_acts r y new b) (with_stage r.recovery (if b then gathered_in r.recovery.spec r.recovery.epoch new else Seals d)) (if b then gathered_out r.recovery.spec r.recovery.epoch r.recovery.lost new (next_ask y new) else [])
page_if r y d new true h n = digest_moves r r.recovery new (next_ask y new) n
page_if r y d new false h n = stay_moves r (Seals d) h

module _ (r : Recovering) (y from upto trim lng : ℕ) (es : List Entry) where
  -- a page of a stage, and whether it is taken and leaves the digest spent
  abbrev pub paged : Stage → Stage
  paged s = page_told r.recovery.epoch y from upto trim lng es s

  abbrev pub page_spends : Stage → Bool
  page_spends s = takes_in y from s && is_spent_stage r.recovery.spec (paged s)

  abbrev pub page_now : Stage → Stage
  page_now s = page_in r.recovery.spec r.recovery.epoch y from upto trim lng es s

  abbrev pub page_then : Stage → List (ℕ × Body)
  page_then s = page_out r.recovery.spec r.recovery.epoch r.recovery.lost y from upto trim lng es s

  page_moves : (s : Stage) → r.recovery.stage ≡ s → page_spends s ≡ false → Moves r (digests (no_looks r) (acts0 r) r.recovery y from upto trim lng es s) (with_stage r.recovery (page_now s)) (page_then s)
  page_moves (Seals d) h n = page_if r y d (with_page r.recovery.epoch y from upto trim lng es d) (takes_any y from d) h n
  page_moves (Stores g) h n = stay_moves r (Stores g) h
  page_moves (Closes z short) h n = stay_moves r (Closes z short) h

  first_of : (a b : Bool) → (a && b) ≡ true → a ≡ true
  first_of true b h = refl
  first_of false b h = absurd cc

  second_of : (a b : Bool) → (a && b) ≡ true → b ≡ true
  second_of true b h = h
  second_of false b h = absurd cc

  page_spent : (s : Stage) → page_spends s ≡ true → page_now s ≡ paged s
  page_spent (Seals d) h =
      let new = with_page r.recovery.epoch y from upto trim lng es d in
      ap (λ (b : Bool). if b then gathered_in r.recovery.spec r.recovery.epoch new else Seals d) (first_of (takes_any y from d) (is_spent r.recovery.spec new) h)
      ∙ spent_in r.recovery.spec r.recovery.epoch new (second_of (takes_any y from d) (is_spent r.recovery.spec new) h)
  page_spent (Stores g) h = absurd cc
  page_spent (Closes z short) h = absurd cc

  page_quiet : (s : Stage) → page_spends s ≡ true → page_then s ≡ []
  page_quiet (Seals d) h =
      let new = with_page r.recovery.epoch y from upto trim lng es d in
      ap (λ (b : Bool). if b then gathered_out r.recovery.spec r.recovery.epoch r.recovery.lost new (next_ask y new) else []) (first_of (takes_any y from d) (is_spent r.recovery.spec new) h)
      ∙ spent_out r.recovery.spec r.recovery.epoch r.recovery.lost new (next_ask y new) (second_of (takes_any y from d) (is_spent r.recovery.spec new) h)
  page_quiet (Stores g) h = refl
  page_quiet (Closes z short) h = refl

  going_too : (t x : Bool) (e : Ending) → e ≡ Goes → ((true && t) && (x && is_going e)) ≡ (t && x)
  going_too true true e h = ap is_going h
  going_too true false e h = refl
  going_too false x e h = refl

  pub page_spends_if : (b : Bool) → r.ending ≡ Goes → (r.recovery.epoch == epoch_of from) ≡ true → page_spends r.recovery.stage ≡ b → spends r y (bodies.DigestPage from upto trim lng es) ≡ b
  page_spends_if b h e k =
      ap (λ (t : Bool). (t && takes_in y from r.recovery.stage) && (is_spent_stage r.recovery.spec (paged r.recovery.stage) && is_going r.ending)) e
      ∙ (going_too (takes_in y from r.recovery.stage) (is_spent_stage r.recovery.spec (paged r.recovery.stage)) r.ending h ∙ k)

  pub page_here : r.ending ≡ Goes → epoch_of from ≡ r.recovery.epoch → Replied r y (bodies.DigestPage from upto trim lng es) (going r (with_stage r.recovery (page_now r.recovery.stage))) (page_then r.recovery.stage)
  page_here h o =
      let b = bodies.DigestPage from upto trim lng es in
      let c : (r.recovery.epoch == epoch_of from) ≡ true = same (sym o) in
      elim (cases_Bool (page_spends r.recovery.stage)) [
        | inl spent ↦
            let s : spends r y b ≡ true = page_spends_if true h c spent in
            record {
              value = ap (λ (t : Bool). if t then going r (told_by r.recovery y b) else when_going r.ending (replied_with r b (reply_acts r y b)) r) s
                  ∙ ap (λ (x : Stage). going r (with_stage r.recovery x)) (sym (page_spent r.recovery.stage spent));
              sent = ap (λ (t : Bool). if t then [] else when_going r.ending (messages r (sent_by r (reply_acts r y b))) []) s ∙ ap (messages r) (sym (page_quiet r.recovery.stage spent));
            }
        | inr unspent ↦
            let k : by_reply (no_looks r) (acts0 r) y b ≡ digests (no_looks r) (acts0 r) r.recovery y from upto trim lng es r.recovery.stage =
            ap (λ (t : Bool). if t then digests (no_looks r) (acts0 r) r.recovery y from upto trim lng es r.recovery.stage else acts0 r) c in
            moves_on r y b _ _ _ h (page_spends_if false h c unspent) k (page_moves r.recovery.stage refl unspent)
      ]

  pub page_elsewhere : r.ending ≡ Goes → (epoch_of from ≡ r.recovery.epoch → ⊥) → Replied r y (bodies.DigestPage from upto trim lng es) r []
  page_elsewhere h o =
      let c : (r.recovery.epoch == epoch_of from) ≡ false = other (λ e. o (sym e)) in
      quiet r y (bodies.DigestPage from upto trim lng es) h
      (ap (λ (t : Bool). (t && takes_in y from r.recovery.stage) && (is_spent_stage r.recovery.spec (paged r.recovery.stage) && is_going r.ending)) c)
      (ap (λ (t : Bool). if t then digests (no_looks r) (acts0 r) r.recovery y from upto trim lng es r.recovery.stage else acts0 r) c)
