-- What a message does to a sequencer, by its parts.
use Rattle.std.proofs.Common.{◌≡◌, ◌⊎◌, inl, inr, ℕ, ◌-◌, Bool, true, false, not, ◌&&◌, ◌==◌, nat_lt, List, [], ◌∷◌, ◌++◌, Option, Some, None, is_some, if◌then◌else◌, refl, ap, sym, subst, ◌∙◌, arith}
use Rattle.std.proofs.lemmas.List.{append_assoc}
use Rattle.std.proofs.lemmas.Bool.Decides.{nat_tests}
use Rattle.ld_ids.specs.Choice.{nodes_of}
use Rattle.ld_msg.specs.declared.msg.Summary.{Summary}
use Rattle.ld_msg.specs.declared.msg.Msg.{Msg}
use Rattle.ld_msg.specs.declared.msg.Who.{Who}
use Rattle.ld_msg.specs.declared.msg.Who.TheVariants as whos
use Rattle.ld_msg.specs.declared.msg.Body.{Body}
use Rattle.ld_msg.specs.declared.msg.Body.TheVariants as bodies
use Rattle.ld_msg.specs.Register.{View}
use Rattle.ld_msg.specs.Sequencer.{Sequencer, Recovery, Stage, Seals, Stores, Closes, Attempt, Acts, does_nothing, by_reply, on_reply, unless_preempted, goes_on, tells_clean, passes, acted_messages, released_of, to_each}
use Rattle.ld_recovery.specs.declared.state.State.TheVariants as states
use Rattle.ld_recovery.specs.Recovering as recovering
use Rattle.ld_recovery.specs.Recovering.{Recovering, Ending, Goes, IsDone, going, no_looks, replied, replied_with, reply_messages, when_going, messages, is_open, ended, ending_told, summary_told, is_going, sender_of, counts, told_by, is_spent_stage, spends}
use Rattle.ld_recovery.specs.States.{state_of}
use Rattle.ld_sequencer.specs.Own.{Own, listed}
use Rattle.ld_sequencer.specs.declared.report.Report.{Report}
use Rattle.ld_sequencer.specs.Whole.{Whole, as_now, sent_as, joined, recovery_in, with_recovery, Serves, AreOne, is_of_earlier, is_for_recovery, spends_in, spends_by, reply_acts, Acted}
use Rattle.ld_sequencer.proofs.Parts.{only, rejoin, join_by, Moves, Steady, Cleans, either_by, moved}
use Rattle.ld_recovery.proofs.Posting.{posted-append}
use Rattle.ld_sequencer.proofs.Serving.{sent_of, served, as_is, serves_on, one_with}
use Rattle.ld_sequencer.proofs.Doing.{report_of, same_quiet, same_risen, onward}

-- ---- whom a message is for ----

for_if : (p : Option ℕ) (v : Option Recovery) (e : Bool) → (not (is_some p) && (is_some v && e)) ≡ true → (p ≡ None) × (e ≡ true)
for_if None (Some v) e h = (refl, h)
for_if None None e h = absurd cc
for_if (Some k) v e h = absurd cc

pub for_recovery : (w : Whole) (b : Body) → is_for_recovery w b ≡ true → (w.sequencer.preempted ≡ None) × (is_of_earlier w.sequencer.epoch b ≡ true)
for_recovery w b h = for_if w.sequencer.preempted w.sequencer.recovery (is_of_earlier w.sequencer.epoch b) h

there_if : (p : Option ℕ) (v : Option Recovery) (e : Bool) → v ≡ None → (not (is_some p) && (is_some v && e)) ≡ true → ⊥
there_if None None e k h = absurd cc
there_if None (Some v) e k h = absurd cc
there_if (Some n) v e k h = absurd cc

pub is_there : (o : Own) (m : Option Recovering) (w : Whole) (b : Body) → joined o m ≡ w → m ≡ None → is_for_recovery w b ≡ true → ⊥
is_there o m w b j k h = there_if o.preempted (recovery_in None) (is_of_earlier o.row.epoch b) refl (ap (λ (x : Option Recovering). is_for_recovery (joined o x) b) (sym k) ∙ (ap (λ (x : Whole). is_for_recovery x b) j ∙ h))

-- ---- a message for the recovery ----

pub record Onward (o : Own) (r : Recovering) (y : ℕ) (b : Body) : Type 0 where
  pub acts : Acts
  pub same : (looks : ℕ → View) → on_reply looks (joined o (Some r)).sequencer y b ≡ acts
  pub moves : Moves (joined o (Some r)).sequencer r.recovery acts
  pub value : replied r y b ≡ going r moves.now
  pub sent : reply_messages r y b ≡ sent_as (joined o (Some r)) (moves.asks ++ moves.stores)

pub record Ended (o : Own) (r : Recovering) (y : ℕ) (b : Body) : Type 0 where
  pub summary : Summary
  pub acts : (looks : ℕ → View) → on_reply looks (joined o (Some r)).sequencer y b ≡ passes looks (does_nothing (joined o (Some r)).sequencer) r.recovery.epoch summary
  pub value : replied r y b ≡ ended r (IsDone summary)
  pub sent : reply_messages r y b ≡ sent_as (joined o (Some r)) (to_each (bodies.Clean r.recovery.epoch summary) (nodes_of r.recovery.spec))

acts_are : (o : Own) (r : Recovering) (y : ℕ) (b : Body) → Serves o r → recovering.reply_acts r y b ≡ by_reply (no_looks r) (does_nothing (only o.row.spec.log o.row.epoch o.lce r.recovery)) y b
unfolding on_reply
acts_are o r y b s = ap (λ (q : Sequencer). by_reply (no_looks r) (does_nothing q) y b) (as_is o r s)

whole_acts : (looks : ℕ → View) (o : Own) (r : Recovering) (y : ℕ) (b : Body) → o.preempted ≡ None → is_of_earlier o.row.epoch b ≡ true → spends_in y b (Some r.recovery) ≡ false
    → on_reply looks (joined o (Some r)).sequencer y b ≡ rejoin o (by_reply looks (does_nothing (only o.row.spec.log o.row.epoch o.lce r.recovery)) y b)
unfolding on_reply
whole_acts looks o r y b p e s =
    let q = (joined o (Some r)).sequencer in
    ap (λ (x : Option ℕ). unless_preempted x (by_reply looks (does_nothing q) y b) (does_nothing q)) p ∙ join_by looks o r.recovery y b e s

pub and_true : (b : Bool) → (b && true) ≡ b
and_true true = refl
and_true false = refl

-- the digest isn't spent by it
unspent : (r : Recovering) (y : ℕ) (b : Body) → r.ending ≡ Goes → spends_in y b (Some r.recovery) ≡ false → spends r y b ≡ false
unspent r y b g s =
    let c = counts r.recovery y b in let p = is_spent_stage r.recovery.spec (told_by r.recovery y b).stage in
    ap (λ (e : Ending). c && (p && is_going e)) g ∙ (ap (λ (q : Bool). c && q) (and_true p) ∙ s)

value_with : (r : Recovering) (y : ℕ) (b : Body) (a : Acts) → r.ending ≡ Goes → spends_in y b (Some r.recovery) ≡ false → recovering.reply_acts r y b ≡ a → replied r y b ≡ replied_with r b a
value_with r y b a g s k = ap (λ (c : Bool). if c then going r (told_by r.recovery y b) else when_going r.ending (replied_with r b (recovering.reply_acts r y b)) r) (unspent r y b g s)
    ∙ (ap (λ (e : Ending). when_going e (replied_with r b (recovering.reply_acts r y b)) r) g ∙ ap (replied_with r b) k)

sent_with : (r : Recovering) (y : ℕ) (b : Body) (a : Acts) → r.ending ≡ Goes → spends_in y b (Some r.recovery) ≡ false → recovering.reply_acts r y b ≡ a → reply_messages r y b ≡ messages r (recovering.sent_by r a)
sent_with r y b a g s k = ap (λ (c : Bool). if c then [] else when_going r.ending (messages r (recovering.sent_by r (recovering.reply_acts r y b))) []) (unspent r y b g s)
    ∙ (ap (λ (e : Ending). when_going e (messages r (recovering.sent_by r (recovering.reply_acts r y b))) []) g ∙ ap (λ (x : Acts). messages r (recovering.sent_by r x)) k)

onward_of : (o : Own) (r : Recovering) (y : ℕ) (b : Body) → Serves o r → o.preempted ≡ None → is_of_earlier o.row.epoch b ≡ true → spends_in y b (Some r.recovery) ≡ false
    → Steady (only o.row.spec.log o.row.epoch o.lce r.recovery) r.recovery (λ looks. by_reply looks (does_nothing (only o.row.spec.log o.row.epoch o.lce r.recovery)) y b) → Onward o r y b
onward_of o r y b s p e u d =
    let q = only o.row.spec.log o.row.epoch o.lce r.recovery in
    let h = d.moves in
    let a = moved q h.now h.tries h.asks h.stores in
    let own : recovering.reply_acts r y b ≡ a = acts_are o r y b s ∙ (d.same (no_looks r) ∙ h.value) in
    let unclosed : (o.lce == r.recovery.epoch - 1) ≡ true = let k = s.epoch in grind (arith, nat_tests) in
    record {
      acts = rejoin o d.acts;
      same = λ looks. whole_acts looks o r y b p e u ∙ ap (rejoin o) (d.same looks);
      moves = record {
        now = h.now;
        tries = h.tries;
        asks = h.asks;
        stores = h.stores;
        value = ap (rejoin o) h.value;
        epoch = h.epoch;
        spec = h.spec;
        due = h.due;
        quiet = h.quiet;
      };
      value = value_with r y b a s.going u own ∙ ap (λ (t : Bool). if t then recovering.goes_on r a else ended r (ending_told (summary_told b))) unclosed;
      sent = sent_with r y b a s.going u own ∙ (ap (λ (t : Bool). messages r (if t then a.asks ++ a.stores else a.cleans)) unclosed ∙ sent_of o (Some r) r (h.asks ++ h.stores) s);
    }

ended_of : (o : Own) (r : Recovering) (y : ℕ) (b : Body) → Serves o r → o.preempted ≡ None → is_of_earlier o.row.epoch b ≡ true → spends_in y b (Some r.recovery) ≡ false
    → Cleans (only o.row.spec.log o.row.epoch o.lce r.recovery) r.recovery b (λ looks. by_reply looks (does_nothing (only o.row.spec.log o.row.epoch o.lce r.recovery)) y b) → Ended o r y b
ended_of o r y b s p e u h =
    let q = only o.row.spec.log o.row.epoch o.lce r.recovery in
    let n = r.recovery.epoch in
    let a = passes (no_looks r) (does_nothing q) n h.summary in
    let own : recovering.reply_acts r y b ≡ a = acts_are o r y b s ∙ h.value (no_looks r) in
    let shut : (n == n - 1) ≡ false = let k = s.epoch in grind (arith, nat_tests) in
    record {
      summary = h.summary;
      acts = λ looks. whole_acts looks o r y b p e u ∙ ap (rejoin o) (h.value looks);
      value = value_with r y b a s.going u own ∙ (ap (λ (t : Bool). if t then recovering.goes_on r a else ended r (ending_told (summary_told b))) shut ∙ ap (λ (x : Option Summary). ended r (ending_told x)) h.told);
      sent = sent_with r y b a s.going u own ∙ (ap (λ (t : Bool). messages r (if t then a.asks ++ a.stores else a.cleans)) shut ∙ sent_of o (Some r) r (to_each (bodies.Clean n h.summary) (nodes_of r.recovery.spec)) s);
    }

pub hears : (o : Own) (r : Recovering) (y : ℕ) (b : Body) → Serves o r → o.preempted ≡ None → is_of_earlier o.row.epoch b ≡ true → spends_in y b (Some r.recovery) ≡ false → Onward o r y b ⊎ Ended o r y b
hears o r y b s p e u = elim (either_by o.row.spec.log o.row.epoch o.lce r.recovery y b e u (no_looks r)) [ inl h ↦ inl (onward_of o r y b s p e u h) | inr h ↦ inr (ended_of o r y b s p e u h) ]

state_not_done : (t : Stage) (y : Summary) → Rattle.ld_recovery.specs.States.state_in t ≡ states.Done y → ⊥
state_not_done (Seals d) y h = absurd cc
state_not_done (Stores g) y h = absurd cc
state_not_done (Closes z short) y h = absurd cc

pub hears_on : (o : Own) (r x : Recovering) (y : ℕ) (b : Body) → x ≡ replied r y b → ((z : Summary) → state_of x ≡ states.Done z → ⊥) → Onward o r y b ⊎ Ended o r y b → Onward o r y b
hears_on o r x y b e h (inl p) = p
hears_on o r x y b e h (inr p) = absurd (h p.summary (ap state_of (e ∙ p.value)))

pub hears_end : (o : Own) (r x : Recovering) (y : ℕ) (b : Body) (z : Summary) → x ≡ replied r y b → state_of x ≡ states.Done z → Onward o r y b ⊎ Ended o r y b → Ended o r y b
hears_end o r x y b z e h (inl p) = absurd (state_not_done p.moves.now.stage z (ap state_of (sym (e ∙ p.value)) ∙ h))
hears_end o r x y b z e h (inr p) = p

-- ---- what is done by it ----

pub onward_one : (o : Own) (m : Option Recovering) (r x : Recovering) (y : ℕ) (b : Body) → AreOne o m → m ≡ Some r → x ≡ replied r y b → Onward o r y b → AreOne o (Some x)
onward_one o m r x y b h k e p = one_with o m (Some x) h (subst (λ (z : Recovering). Serves o z) (sym (e ∙ p.value)) (serves_on o r p.moves.now (served o m r k h) p.moves.epoch p.moves.spec))

moved_acted : (o : Own) (r : Recovering) (t : Report) (v : Recovery) (ts : List Attempt) (bs ss : List (ℕ × Body)) (old new : List Msg) → t.acked ≡ None → t.closed ≡ None → t.preempted ≡ None → t.register ≡ None → t.released ≡ None
    → new ≡ old ++ sent_as (joined o (Some r)) (bs ++ ss) → Acted (joined o (Some r)) (joined o (Some (going r v))) t old new (moved (joined o (Some r)).sequencer v ts bs ss)
moved_acted o r t v ts bs ss old new a c p f l s =
    let q = (joined o (Some r)).sequencer in
    record {
      now = refl;
      sent = s ∙ ap (λ (ms : List (ℕ × Body)). old ++ sent_as (joined o (Some r)) (ms ++ (bs ++ ss))) (sym (same_quiet q (with_recovery (Some v) q) refl));
      acked = ap listed a;
      closed = ap listed c;
      preempted = ap listed p;
      failed = ap is_some f;
      released = ap listed l ∙ same_risen q (with_recovery (Some v) q) refl;
    }

pub onward_acted : (looks : ℕ → View) (w : Whole) (o : Own) (m : Option Recovering) (r x : Recovering) (t : Report) (who : Who) (b : Body) (old new : List Msg) → joined o m ≡ w → m ≡ Some r → x ≡ replied r (sender_of who) b → Onward o r (sender_of who) b
    → t.acked ≡ None → t.closed ≡ None → t.preempted ≡ None → t.register ≡ None → t.released ≡ None
    → new ≡ old ++ reply_messages r (sender_of who) b → Acted w (joined o (Some x)) t old new (reply_acts looks w who b)
onward_acted looks w o m r x t who b old new j k e p ta tc tp tf tl s =
    let d = p.moves in
    subst (λ (z : Whole). Acted z (joined o (Some x)) t old new (reply_acts looks z who b)) (ap (joined o) (sym k) ∙ j)
    (subst (λ (z : Recovering). Acted (joined o (Some r)) (joined o (Some z)) t old new (reply_acts looks (joined o (Some r)) who b)) (sym (e ∙ p.value))
    (subst (Acted (joined o (Some r)) (joined o (Some (going r d.now))) t old new) (sym (p.same looks ∙ d.value))
    (moved_acted o r t d.now d.tries d.asks d.stores old new ta tc tp tf tl (s ∙ ap (λ (ms : List Msg). old ++ ms) p.sent))))

clean_out : (looks : ℕ → View) (o : Own) (r : Recovering) (e : ℕ) (y : Summary) (old mid new : List Msg) → mid ≡ old ++ sent_as (joined o (Some r)) (to_each (bodies.Clean e y) (nodes_of r.recovery.spec))
    → new ≡ mid ++ sent_as (joined o (Some r)) (acted_messages (joined o (Some r)).sequencer (onward looks (joined o (Some r)) e))
    → new ≡ old ++ sent_as (joined o (Some r)) (acted_messages (joined o (Some r)).sequencer (goes_on looks (tells_clean (does_nothing (joined o (Some r)).sequencer) e y) e))
clean_out looks o r e y old mid new h k =
    let w = joined o (Some r) in
    let cs : List (ℕ × Body) = to_each (bodies.Clean e y) (nodes_of r.recovery.spec) in
    let bs : List (ℕ × Body) = acted_messages w.sequencer (onward looks w e) in
    k ∙ (ap (λ (ms : List Msg). ms ++ sent_as w bs) h ∙ (append_assoc old (sent_as w cs) (sent_as w bs) ∙ ap (λ (ms : List Msg). old ++ ms) (sym (posted-append (whos.Sequencer o.row.epoch) o.row.spec.log cs bs))))

pub passed_there : (looks : ℕ → View) (o : Own) (r : Recovering) (n : Whole) (y : Summary) (before : ℕ) (released : Option ℕ) (old mid new : List Msg)
    → before ≡ released_of (joined o (Some r)).sequencer → mid ≡ old ++ sent_as (joined o (Some r)) (to_each (bodies.Clean r.recovery.epoch y) (nodes_of r.recovery.spec))
    → n ≡ as_now (joined o (Some r)) (onward looks (joined o (Some r)) r.recovery.epoch).sequencer → new ≡ mid ++ sent_as (joined o (Some r)) (acted_messages (joined o (Some r)).sequencer (onward looks (joined o (Some r)) r.recovery.epoch))
    → listed released ≡ (if nat_lt before (released_of n.sequencer) then released_of n.sequencer ∷ [] else [])
    → Acted (joined o (Some r)) n (report_of None None None None released) old new (passes looks (does_nothing (joined o (Some r)).sequencer) r.recovery.epoch y)
passed_there looks o r n y before released old mid new bf g i s l =
    let w = joined o (Some r) in let e = r.recovery.epoch in
    record {
      now = i;
      sent = clean_out looks o r e y old mid new g s;
      acked = refl;
      closed = refl;
      preempted = refl;
      failed = refl;
      released = l ∙ (ap (λ (z : Whole). if nat_lt before (released_of z.sequencer) then released_of z.sequencer ∷ [] else []) i
          ∙ ap (λ (z : ℕ). if nat_lt z (released_of (onward looks w e).sequencer) then released_of (onward looks w e).sequencer ∷ [] else []) bf);
    }

ended_there : (looks : ℕ → View) (o : Own) (r : Recovering) (n : Whole) (who : Who) (b : Body) (before : ℕ) (released : Option ℕ) (old mid new : List Msg) (p : Ended o r (sender_of who) b)
    → before ≡ released_of (joined o (Some r)).sequencer → mid ≡ old ++ reply_messages r (sender_of who) b
    → n ≡ as_now (joined o (Some r)) (onward looks (joined o (Some r)) r.recovery.epoch).sequencer → new ≡ mid ++ sent_as (joined o (Some r)) (acted_messages (joined o (Some r)).sequencer (onward looks (joined o (Some r)) r.recovery.epoch))
    → listed released ≡ (if nat_lt before (released_of n.sequencer) then released_of n.sequencer ∷ [] else [])
    → Acted (joined o (Some r)) n (report_of None None None None released) old new (reply_acts looks (joined o (Some r)) who b)
ended_there looks o r n who b before released old mid new p bf g i s l =
    subst (Acted (joined o (Some r)) n (report_of None None None None released) old new) (sym (p.acts looks)) (passed_there looks o r n p.summary before released old mid new bf (g ∙ ap (λ (ms : List Msg). old ++ ms) p.sent) i s l)

pub ended_acted : (looks : ℕ → View) (w n : Whole) (o : Own) (m : Option Recovering) (r x : Recovering) (who : Who) (b : Body) (e before : ℕ) (released : Option ℕ) (old mid new : List Msg) → joined o m ≡ w → m ≡ Some r → x ≡ replied r (sender_of who) b → e ≡ x.recovery.epoch
    → before ≡ released_of w.sequencer → mid ≡ old ++ reply_messages r (sender_of who) b
    → n ≡ as_now (joined o None) (onward looks (joined o None) e).sequencer → new ≡ mid ++ sent_as (joined o None) (acted_messages (joined o None).sequencer (onward looks (joined o None) e))
    → listed released ≡ (if nat_lt before (released_of n.sequencer) then released_of n.sequencer ∷ [] else [])
    → Ended o r (sender_of who) b → Acted w n (report_of None None None None released) old new (reply_acts looks w who b)
ended_acted looks w n o m r x who b e before released old mid new j k f g bf t i s l p =
    let z : joined o (Some r) ≡ w = ap (joined o) (sym k) ∙ j in
    let d : e ≡ r.recovery.epoch = g ∙ ap (λ (q : Recovering). q.recovery.epoch) (f ∙ p.value) in
    subst (λ (q : Whole). Acted q n (report_of None None None None released) old new (reply_acts looks q who b)) z
    (ended_there looks o r n who b before released old mid new p (bf ∙ ap (λ (q : Whole). released_of q.sequencer) (sym z)) t
    (i ∙ ap (λ (y : ℕ). as_now (joined o None) (onward looks (joined o None) y).sequencer) d)
    (s ∙ ap (λ (y : ℕ). mid ++ sent_as (joined o None) (acted_messages (joined o None).sequencer (onward looks (joined o None) y))) d) l)

-- the recovery hears it, and its digest isn't spent by it
spends_if : (f c : Bool) → f ≡ true → (f && c) ≡ false → c ≡ false
spends_if true c e h = h
spends_if false c e h = absurd cc

unspent_in : (w : Whole) (o : Own) (m : Option Recovering) (r : Recovering) (who : Who) (b : Body) → joined o m ≡ w → m ≡ Some r → is_for_recovery w b ≡ true → spends_by w who b ≡ false → spends_in (sender_of who) b (Some r.recovery) ≡ false
unspent_in w o m r who b j k f s =
    ap (λ (x : Option Recovering). spends_in (sender_of who) b (recovery_in x)) (sym k)
    ∙ (ap (λ (x : Whole). spends_in (sender_of who) b x.sequencer.recovery) j ∙ spends_if (is_for_recovery w b) (spends_in (sender_of who) b w.sequencer.recovery) f s)

pub hears_in : (w : Whole) (o : Own) (m : Option Recovering) (r : Recovering) (who : Who) (b : Body) → joined o m ≡ w → AreOne o m → m ≡ Some r → is_for_recovery w b ≡ true → spends_by w who b ≡ false → Onward o r (sender_of who) b ⊎ Ended o r (sender_of who) b
hears_in w o m r who b j h k f s =
    let g = for_recovery (joined o m) b (ap (λ (x : Whole). is_for_recovery x b) j ∙ f) in
    hears o r (sender_of who) b (served o m r k h) g.0 g.1 (unspent_in w o m r who b j k f s)
