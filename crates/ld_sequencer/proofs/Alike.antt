-- Of what looks show, only what they show of the epoch whose recovery begins counts.
use Rattle.std.proofs.Common.{◌≡◌, ◌⊎◌, inl, inr, ℕ, ◌+◌, Bool, true, false, not, ◌&&◌, ◌==◌, nat_lt, nat_le, List, [], ◌∷◌, Option, Some, None, is_some, Result, Ok, Err, IfOk, if◌then◌else◌, refl, ap, sym, ◌∙◌, subst}
use Rattle.ld_lsn.specs.Number.{epoch_of, home_epoch, numbered}
use Rattle.ld_ids.specs.declared.set.Spec.{Spec}
use Rattle.ld_msg.specs.declared.msg.Summary.{Summary}
use Rattle.ld_msg.specs.declared.msg.Who.{Who}
use Rattle.ld_msg.specs.declared.msg.Entry.{Entry}
use Rattle.ld_msg.specs.declared.msg.Body.{Body}
use Rattle.ld_msg.specs.declared.msg.Body.TheVariants as bodies
use Rattle.ld_msg.specs.Digest.{Told, no_digest, with_page, enough, is_spent, plan}
use Rattle.ld_msg.specs.Register.{View, Answer, Granted, AtLimit, Behind, Overtaken, Fails}
use Rattle.ld_msg.specs.Sequencer.{Sequencer, Recovery, Stage, Seals, Stores, Closes, Attempt, Acts, does_nothing, goes_on, preempt, tells_clean, after_close, after_lost, loses_node, recovery_lost, stores_plan, looks_now, seals_on, with_digest, adds_page, digests, takes_any, next_ask, by_clean, by_lost, in_recovery, on_reply, unless_preempted, digest_asks}
use Rattle.ld_recovery.specs.Recovering.{sender_of, is_spent_stage, takes_in, page_told}
use Rattle.ld_sequencer.specs.Looks.{shows, AreAlike, IsShown}
use Rattle.ld_sequencer.specs.Register.{Tells}
use Rattle.ld_register.specs.Bounds.{IsSpecFor}
use Rattle.ld_msg.specs.declared.msg.Msg.{Msg}
use Rattle.ld_sequencer.specs.declared.report.Report.{Report}
use Rattle.ld_sequencer.specs.declared.fault.SequencerFault.{SequencerFault}
use Rattle.ld_sequencer.specs.Whole.{Whole, epoch_begun, epoch_behind, spends_in, spends_by, reply_acts, tried, tried_with, AreShown, Acted, ActedBy, Unclosed, IsRefused}

-- ---- the next recovery ----

abbrev goes_with : Acts → ℕ → ℕ → Spec → Bool → Acts
goes_with a lce at s b = record a {
  sequencer = record a.sequencer { lce = lce; recovery = if b then Some (record { epoch = at; spec = s; lost = []; stage = Seals (no_digest s at) }) else None };
  asks = if b then digest_asks (no_digest s (lce + 1)) else [];
}

with_alike : (looks others : ℕ → View) (a : Acts) (lce : ℕ) (b : Bool) → (b ≡ true → AreAlike looks others (lce + 1)) → goes_with a lce (looks (lce + 1)).at (looks (lce + 1)).spec b ≡ goes_with a lce (others (lce + 1)).at (others (lce + 1)).spec b
with_alike looks others a lce true h =
    let k = h refl in
    ap (λ (n : ℕ). goes_with a lce n (looks (lce + 1)).spec true) k.0 ∙ ap (λ (s : Spec). goes_with a lce (others (lce + 1)).at s true) k.1
with_alike looks others a lce false h = refl

pub on_alike : (looks others : ℕ → View) (a : Acts) (lce : ℕ) → (nat_lt (lce + 1) a.sequencer.epoch ≡ true → AreAlike looks others (lce + 1)) → goes_on looks a lce ≡ goes_on others a lce
on_alike looks others a lce h = with_alike looks others a lce (nat_lt (lce + 1) a.sequencer.epoch) h

-- ---- a close ----

behind_alike : (looks others : ℕ → View) (a : Acts) (lce : ℕ) (b : Bool) → AreAlike looks others (lce + 1) → (if b then preempt a (lce + 1) else goes_on looks a lce) ≡ (if b then preempt a (lce + 1) else goes_on others a lce)
behind_alike looks others a lce true h = refl
behind_alike looks others a lce false h = on_alike looks others a lce (λ t. h)

pub close_alike : (looks : ℕ → View) (next : Spec) (a : Acts) (e : ℕ) (y : Summary) (d : Answer) → Tells looks e next d → after_close (shows next) a e y d ≡ after_close looks a e y d
unfolding after_close
close_alike looks next a e y Granted h = ap (λ (x : Acts). record x { closed = numbered e y.end ∷ [] }) (on_alike (shows next) looks (tells_clean a e y) e (λ t. h))
close_alike looks next a e y AtLimit h = refl
close_alike looks next a e y (Behind lce) h = behind_alike (shows next) looks a lce (nat_le a.sequencer.epoch lce) h
close_alike looks next a e y (Overtaken kept) h = refl
close_alike looks next a e y Fails h = refl

-- ---- a reply ----

here_alike : (looks others : ℕ → View) (q : Sequencer) (z : Summary) (v : Recovery) (b : Bool) → ((e : ℕ) → (if b && nat_lt (v.epoch + 1) q.epoch then Some (v.epoch + 1) else None) ≡ Some e → AreAlike looks others e)
    → (if b then goes_on looks (tells_clean (does_nothing q) v.epoch z) v.epoch else does_nothing q) ≡ (if b then goes_on others (tells_clean (does_nothing q) v.epoch z) v.epoch else does_nothing q)
here_alike looks others q z v true h = on_alike looks others (tells_clean (does_nothing q) v.epoch z) v.epoch (λ t. h (v.epoch + 1) (ap (λ (x : Bool). if x then Some (v.epoch + 1) else None) t))
here_alike looks others q z v false h = refl

abbrev cleaned : (ℕ → View) → Sequencer → ℕ → Summary → Option Recovery → Acts
cleaned looks q n z v = in_recovery (does_nothing q) (home_epoch n) v (λ w. goes_on looks (tells_clean (does_nothing q) w.epoch z) w.epoch)

recovery_alike : (looks others : ℕ → View) (q : Sequencer) (n : ℕ) (z : Summary) (v : Option Recovery) → ((e : ℕ) → epoch_behind q.epoch n v ≡ Some e → AreAlike looks others e) → cleaned looks q n z v ≡ cleaned others q n z v
recovery_alike looks others q n z None h = refl
recovery_alike looks others q n z (Some v) h = here_alike looks others q z v (v.epoch == home_epoch n) h

own_alike : (q : Sequencer) (z : Summary) (a d : Acts) (b : Bool) → a ≡ d → (if b then preempt (does_nothing q) z.ballot else a) ≡ (if b then preempt (does_nothing q) z.ballot else d)
own_alike q z a d true h = refl
own_alike q z a d false h = h

clean_alike : (looks others : ℕ → View) (q : Sequencer) (n : ℕ) (z : Summary) (p : Option ℕ) → ((e : ℕ) → (if is_some p then None else epoch_behind q.epoch n q.recovery) ≡ Some e → AreAlike looks others e)
    → unless_preempted p (by_clean looks (does_nothing q) n z) (does_nothing q) ≡ unless_preempted p (by_clean others (does_nothing q) n z) (does_nothing q)
clean_alike looks others q n z None h = own_alike q z (cleaned looks q n z q.recovery) (cleaned others q n z q.recovery) (home_epoch n == q.epoch) (recovery_alike looks others q n z q.recovery h)
clean_alike looks others q n z (Some k) h = refl

-- ---- what a digest that isn't spent asks for ----

unspent_if : (e s : Bool) (x y z d : Acts) → s ≡ false → (if e then x else if s then y else d) ≡ (if e then x else if s then z else d)
unspent_if true s x y z d h = refl
unspent_if false true x y z d h = absurd cc
unspent_if false false x y z d h = refl

digest_alike : (looks others : ℕ → View) (a : Acts) (v : Recovery) (d : List Told) (asks : List (ℕ × Body)) → is_spent v.spec d ≡ false → with_digest looks a v d asks ≡ with_digest others a v d asks
digest_alike looks others a v d asks h = unspent_if (enough v.spec d) (is_spent v.spec d) (stores_plan a v (plan v.epoch false d)) (looks_now looks a v d) (looks_now others a v d) (seals_on a v d asks) h

lost_alike : (looks others : ℕ → View) (a : Acts) (v : Recovery) (s : Stage) → is_spent_stage v.spec s ≡ false → after_lost looks a v s ≡ after_lost others a v s
lost_alike looks others a v (Seals d) h = digest_alike looks others a v d [] h
lost_alike looks others a v (Stores g) h = refl
lost_alike looks others a v (Closes y short) h = refl

pub lost_here : (looks others : ℕ → View) (a : Acts) (v : Recovery) (c : Bool) → (c && is_spent_stage v.spec v.stage) ≡ false → (if c then loses_node looks a v else a) ≡ (if c then loses_node others a v else a)
lost_here looks others a v true h = lost_alike looks others a v v.stage h
lost_here looks others a v false h = refl

lost_in : (looks others : ℕ → View) (q : Sequencer) (y n round generation end : ℕ) (v : Option Recovery) → spends_in y (bodies.LostHere n round generation end) v ≡ false
    → in_recovery (does_nothing q) (home_epoch n) v (λ w. loses_node looks (does_nothing q) (recovery_lost y w)) ≡ in_recovery (does_nothing q) (home_epoch n) v (λ w. loses_node others (does_nothing q) (recovery_lost y w))
lost_in looks others q y n round generation end None h = refl
lost_in looks others q y n round generation end (Some v) h = lost_here looks others (does_nothing q) (recovery_lost y v) (v.epoch == home_epoch n) h

-- whether it is of the own epoch
lost_own : (a x z : Acts) (v : Option Recovery) (own sp : Bool) → ((is_some v && not own) && sp) ≡ false → (v ≡ None → x ≡ z) → (sp ≡ false → x ≡ z) → (if own then a else x) ≡ (if own then a else z)
lost_own a x z v true sp h n k = refl
lost_own a x z None false sp h n k = n refl
lost_own a x z (Some v) false sp h n k = k h

lost_unless : (looks others : ℕ → View) (q : Sequencer) (y n round generation end : ℕ) (p : Option ℕ) → ((not (is_some p) && (is_some q.recovery && not (home_epoch n == q.epoch))) && spends_in y (bodies.LostHere n round generation end) q.recovery) ≡ false
    → unless_preempted p (by_lost looks (does_nothing q) y n) (does_nothing q) ≡ unless_preempted p (by_lost others (does_nothing q) y n) (does_nothing q)
lost_unless looks others q y n round generation end (Some k) h = refl
lost_unless looks others q y n round generation end None h = lost_own _ _ _ q.recovery (home_epoch n == q.epoch) (spends_in y (bodies.LostHere n round generation end) q.recovery) h
    (λ e. lost_in looks others q y n round generation end q.recovery (ap (spends_in y (bodies.LostHere n round generation end)) e)) (λ s. lost_in looks others q y n round generation end q.recovery s)

-- a page comes to a stage
module _ (looks others : ℕ → View) (a : Acts) (v : Recovery) (y from upto trim lng : ℕ) (es : List Entry) where
  taken_alike : (c : Bool) (d : List Told) → (c && is_spent v.spec d) ≡ false → (if c then adds_page looks a v y d else a) ≡ (if c then adds_page others a v y d else a)
  taken_alike true d h = digest_alike looks others a v d (next_ask y d) h
  taken_alike false d h = refl

  page_alike : (s : Stage) → (takes_in y from s && is_spent_stage v.spec (page_told v.epoch y from upto trim lng es s)) ≡ false → digests looks a v y from upto trim lng es s ≡ digests others a v y from upto trim lng es s
  page_alike (Seals d) h = taken_alike (takes_any y from d) (with_page v.epoch y from upto trim lng es d) h
  page_alike (Stores g) h = refl
  page_alike (Closes z short) h = refl

  pub page_here : (c : Bool) → ((c && takes_in y from v.stage) && is_spent_stage v.spec (page_told v.epoch y from upto trim lng es v.stage)) ≡ false
      → (if c then digests looks a v y from upto trim lng es v.stage else a) ≡ (if c then digests others a v y from upto trim lng es v.stage else a)
  page_here true h = page_alike v.stage h
  page_here false h = refl

page_in : (looks others : ℕ → View) (q : Sequencer) (y from upto trim lng : ℕ) (es : List Entry) (v : Option Recovery) → spends_in y (bodies.DigestPage from upto trim lng es) v ≡ false
    → in_recovery (does_nothing q) (epoch_of from) v (λ w. digests looks (does_nothing q) w y from upto trim lng es w.stage) ≡ in_recovery (does_nothing q) (epoch_of from) v (λ w. digests others (does_nothing q) w y from upto trim lng es w.stage)
page_in looks others q y from upto trim lng es None h = refl
page_in looks others q y from upto trim lng es (Some v) h = page_here looks others (does_nothing q) v y from upto trim lng es (v.epoch == epoch_of from) h

page_own : (x z : Acts) (v : Option Recovery) (sp : Bool) → ((is_some v && true) && sp) ≡ false → (v ≡ None → x ≡ z) → (sp ≡ false → x ≡ z) → x ≡ z
page_own x z None sp h n k = n refl
page_own x z (Some v) sp h n k = k h

page_unless : (looks others : ℕ → View) (q : Sequencer) (y from upto trim lng : ℕ) (es : List Entry) (p : Option ℕ) → ((not (is_some p) && (is_some q.recovery && true)) && spends_in y (bodies.DigestPage from upto trim lng es) q.recovery) ≡ false
    → unless_preempted p (in_recovery (does_nothing q) (epoch_of from) q.recovery (λ w. digests looks (does_nothing q) w y from upto trim lng es w.stage)) (does_nothing q)
    ≡ unless_preempted p (in_recovery (does_nothing q) (epoch_of from) q.recovery (λ w. digests others (does_nothing q) w y from upto trim lng es w.stage)) (does_nothing q)
page_unless looks others q y from upto trim lng es (Some k) h = refl
page_unless looks others q y from upto trim lng es None h = page_own _ _ q.recovery (spends_in y (bodies.DigestPage from upto trim lng es) q.recovery) h
    (λ e. page_in looks others q y from upto trim lng es q.recovery (ap (spends_in y (bodies.DigestPage from upto trim lng es)) e)) (λ s. page_in looks others q y from upto trim lng es q.recovery s)

reply_by : (looks others : ℕ → View) (w : Whole) (who : Who) (b : Body) → spends_by w who b ≡ false → ((e : ℕ) → epoch_begun w b ≡ Some e → AreAlike looks others e) → on_reply looks w.sequencer (sender_of who) b ≡ on_reply others w.sequencer (sender_of who) b
unfolding on_reply
reply_by looks others w who (bodies.CleanHere n z) q h = clean_alike looks others w.sequencer n z w.sequencer.preempted h
reply_by looks others w who (bodies.LostHere n round generation end) q h = lost_unless looks others w.sequencer (sender_of who) n round generation end w.sequencer.preempted q
reply_by looks others w who (bodies.DigestPage from upto trim lng es) q h = page_unless looks others w.sequencer (sender_of who) from upto trim lng es w.sequencer.preempted q
reply_by looks others w who _ q h = refl

pub reply_alike : (looks : ℕ → View) (w : Whole) (who : Who) (b : Body) (next : Spec) → spends_by w who b ≡ false → IsShown looks (epoch_begun w b) next → reply_acts (shows next) w who b ≡ reply_acts looks w who b
reply_alike looks w who b next q h = reply_by (shows next) looks w who b q h

-- ---- a reply that tries a close begins no recovery ----

abbrev AreTried : Acts → Acts → Type 0
AreTried a d = (a.tries ≡ []) ⊎ (a ≡ d)

own_tries : (q : Sequencer) (z : Summary) (a : Acts) (b : Bool) → a.tries ≡ [] → (if b then preempt (does_nothing q) z.ballot else a).tries ≡ []
own_tries q z a true h = refl
own_tries q z a false h = h

here_tries : (looks : ℕ → View) (q : Sequencer) (z : Summary) (v : Recovery) (b : Bool) → (if b then goes_on looks (tells_clean (does_nothing q) v.epoch z) v.epoch else does_nothing q).tries ≡ []
here_tries looks q z v true = refl
here_tries looks q z v false = refl

recovery_tries : (looks : ℕ → View) (q : Sequencer) (n : ℕ) (z : Summary) (v : Option Recovery) → (cleaned looks q n z v).tries ≡ []
recovery_tries looks q n z None = refl
recovery_tries looks q n z (Some v) = here_tries looks q z v (v.epoch == home_epoch n)

clean_tries : (looks : ℕ → View) (q : Sequencer) (n : ℕ) (z : Summary) (p : Option ℕ) → (unless_preempted p (by_clean looks (does_nothing q) n z) (does_nothing q)).tries ≡ []
clean_tries looks q n z None = own_tries q z (cleaned looks q n z q.recovery) (home_epoch n == q.epoch) (recovery_tries looks q n z q.recovery)
clean_tries looks q n z (Some k) = refl

tries_by : (looks others : ℕ → View) (w : Whole) (who : Who) (b : Body) → spends_by w who b ≡ false → AreTried (on_reply looks w.sequencer (sender_of who) b) (on_reply others w.sequencer (sender_of who) b)
unfolding on_reply
tries_by looks others w who (bodies.CleanHere n z) q = inl (clean_tries looks w.sequencer n z w.sequencer.preempted)
tries_by looks others w who (bodies.LostHere n round generation end) q = inr (lost_unless looks others w.sequencer (sender_of who) n round generation end w.sequencer.preempted q)
tries_by looks others w who (bodies.DigestPage from upto trim lng es) q = inr (page_unless looks others w.sequencer (sender_of who) from upto trim lng es w.sequencer.preempted q)
tries_by looks others w who _ q = inr refl

reply_tries : (looks others : ℕ → View) (w : Whole) (who : Who) (b : Body) → spends_by w who b ≡ false → AreTried (reply_acts looks w who b) (reply_acts others w who b)
reply_tries looks others w who b q = tries_by looks others w who b q

same_if : (a d : Acts) → AreTried a d → AreTried d a → a.tries ≡ d.tries
same_if a d (inr e) k = ap (λ (x : Acts). x.tries) e
same_if a d (inl z) (inl k) = z ∙ sym k
same_if a d (inl z) (inr e) = sym (ap (λ (x : Acts). x.tries) e)

pub same_tries : (looks others : ℕ → View) (w : Whole) (who : Who) (b : Body) → spends_by w who b ≡ false → (reply_acts looks w who b).tries ≡ (reply_acts others w who b).tries
same_tries looks others w who b q = same_if (reply_acts looks w who b) (reply_acts others w who b) (reply_tries looks others w who b q) (reply_tries others looks w who b q)

pub are_shown : (w : Whole) (s : Spec) → IsSpecFor w.sequencer.log s → AreShown w (shows s)
are_shown w s h = record { specs = λ e. h; summary = λ v e. tt }

abbrev RepliedBy : Whole → Whole → Report → List Msg → List Msg → Who → Body → Type 0
RepliedBy w n r old new who b = ActedBy w n r old new (λ looks. reply_acts looks w who b)

acted_if : (w n : Whole) (r : Report) (old new : List Msg) (who : Who) (b : Body) (next s : Spec) (d : Answer) → IsSpecFor w.sequencer.log next → IsSpecFor w.sequencer.log s → AreTried (reply_acts (shows next) w who b) (reply_acts (shows s) w who b)
    → Acted w n r old new (tried (shows s) (reply_acts (shows next) w who b) d) → RepliedBy w n r old new who b
acted_if w n r old new who b next s d g h (inl z) k = (
  shows next,
  are_shown w next g,
  d,
  subst (λ (ts : List Attempt). Acted w n r old new (tried_with (shows next) (reply_acts (shows next) w who b) d ts)) (sym z) (subst (λ (ts : List Attempt). Acted w n r old new (tried_with (shows s) (reply_acts (shows next) w who b) d ts)) z k),
)
acted_if w n r old new who b next s d g h (inr e) k = (shows s, are_shown w s h, d, subst (λ (a : Acts). Acted w n r old new (tried (shows s) a d)) e k)

-- what is shown of the epoch whose recovery begins, and what is shown behind the epoch that is closed, are one
pub one_shown : (w n : Whole) (r : Result Report SequencerFault) (old new : List Msg) (who : Who) (b : Body) (next : Spec) → spends_by w who b ≡ false → IsSpecFor w.sequencer.log next
    → IfOk r (λ report. (s : Spec) × IsSpecFor w.sequencer.log s × (d : Answer) × Acted w n report old new (tried (shows s) (reply_acts (shows next) w who b) d)) → IfOk r (λ report. RepliedBy w n report old new who b)
one_shown w n (Ok x) old new who b next q g k = acted_if w n x old new who b next k.0 k.2 g k.1 (reply_tries (shows next) (shows k.0) w who b q) k.3
one_shown w n (Err f) old new who b next q g k = tt

unclosed_if : (w n : Whole) (f : SequencerFault) (old new : List Msg) (a d : Acts) → AreTried a d → Unclosed w n f old new a → Unclosed w n f old new d
unclosed_if w n f old new a d (inl z) u = absurd (u.tries z)
unclosed_if w n f old new a d (inr e) u = subst (Unclosed w n f old new) e u

refused_if : (w n : Whole) (f : SequencerFault) (old new : List Msg) (a d : Acts) → AreTried a d → IsRefused w n f old new a → IsRefused w n f old new d
refused_if w n f old new a d t (inl e) = inl e
refused_if w n f old new a d t (inr u) = inr (unclosed_if w n f old new a d t u)

pub refused_with : (w n : Whole) (f : SequencerFault) (old new : List Msg) (who : Who) (b : Body) (next : Spec) (looks : ℕ → View) → spends_by w who b ≡ false → IsRefused w n f old new (reply_acts (shows next) w who b) → IsRefused w n f old new (reply_acts looks w who b)
refused_with w n f old new who b next looks q k = refused_if w n f old new (reply_acts (shows next) w who b) (reply_acts looks w who b) (reply_tries (shows next) looks w who b q) k
