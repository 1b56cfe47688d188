-- A sequencer's two parts, and what a reply does to each of them.
use Rattle.std.proofs.Common.{◌≡◌, ◌⊎◌, inl, inr, ℕ, Bool, true, false, not, ◌&&◌, ◌||◌, ◌==◌, nat_lt, nat_le, List, [], ◌∷◌, Option, Some, None, is_some, if◌then◌else◌, refl, ap, sym, ◌∙◌}
use Rattle.ld_table.specs.Table.{find}
use Rattle.ld_table.specs.Words.{is_in, with_one}
use Rattle.ld_ids.specs.Choice.{nodes_of}
use Rattle.ld_lsn.specs.Number.{epoch_of, home_epoch}
use Rattle.ld_msg.specs.declared.msg.Summary.{Summary}
use Rattle.ld_msg.specs.declared.msg.Entry.{Entry}
use Rattle.ld_msg.specs.declared.msg.Body.{Body}
use Rattle.ld_msg.specs.declared.msg.Body.TheVariants as bodies
use Rattle.ld_msg.specs.Register.{View}
use Rattle.ld_msg.specs.Digest.{Told, with_page, with_lost, enough, is_spent, plan}
use Rattle.ld_msg.specs.Sequencer.{Sequencer, Append, Recovery, Stage, Seals, Stores, Closes, Storing, Attempt, Acts, does_nothing, by_reply, acks_append, in_recovery, of_member, settles, settled_by, closes_ready, is_fully_ready, is_ready_short, summary_of, recovery_lost, lost_stage, after_lost, loses_node, preempt, becomes, passes, with_digest, looks_now, seals_on, stores_plan, digests, adds_page, takes_any, next_ask, storing_of, planned, item_stores}
use Rattle.ld_recovery.specs.Recovering.{summary_told, is_spent_stage, takes_in, page_told}
use Rattle.ld_sequencer.specs.declared.close.Due.{Due}
use Rattle.ld_sequencer.specs.Own.{Own, sequencer_of}
use Rattle.ld_sequencer.specs.Whole.{with_recovery, attempts, closing_in, is_of_earlier, spends_in}
use Rattle.ld_sequencer.proofs.Alike.{lost_here, page_here}

-- ---- what is for the own epoch leaves the recovery as it is ----

abbrev pub in_whole : Option Recovery → Acts → Acts
in_whole v a = record a { sequencer = with_recovery v a.sequencer }

abbrev alone : Own → Acts
alone o = does_nothing (sequencer_of o)

abbrev beside : Own → Option Recovery → Acts
beside o v = does_nothing (with_recovery v (sequencer_of o))

both_if : (v : Option Recovery) (b : Bool) (a d a' d' : Acts) → a ≡ in_whole v a' → d ≡ in_whole v d' → (if b then a else d) ≡ in_whole v (if b then a' else d')
both_if v true a d a' d' p q = p
both_if v false a d a' d' p q = q

first_if : (v : Option Recovery) (b : Bool) (a d a' d' : Acts) → not b ≡ false → a ≡ in_whole v a' → (if b then a else d) ≡ in_whole v (if b then a' else d')
first_if v true a d a' d' h p = p
first_if v false a d a' d' h p = absurd cc

own_acks : (o : Own) (v : Option Recovery) (y n : ℕ) (w : Option Append) → acks_append (beside o v) y n w ≡ in_whole v (acks_append (alone o) y n w)
own_acks o v y n None = refl
own_acks o v y n (Some p) = refl

own_member : (o : Own) (v : Option Recovery) (y n : ℕ)
    → of_member o.row.spec y (acks_append (beside o v) y n (find n o.row.appends)) (beside o v) ≡ in_whole v (of_member o.row.spec y (acks_append (alone o) y n (find n o.row.appends)) (alone o))
own_member o v y n = both_if v (is_in y (nodes_of o.row.spec)) (acks_append (beside o v) y n (find n o.row.appends)) (beside o v) (acks_append (alone o) y n (find n o.row.appends)) (alone o) (own_acks o v y n (find n o.row.appends)) refl

abbrev at_recovery : Own → Option Recovery → ℕ → ℕ → Acts
at_recovery o v y n = in_recovery (beside o v) (epoch_of n) v (λ w. of_member w.spec y (settles (beside o v) w (λ k. k == n) y w.stage) (beside o v))

-- looks matter to the recovery alone
pub own_by : (looks others : ℕ → View) (o : Own) (v : Option Recovery) (y : ℕ) (b : Body) → is_of_earlier o.row.epoch b ≡ false → by_reply looks (beside o v) y b ≡ in_whole v (by_reply others (alone o) y b)
own_by looks others o v y (bodies.Stored n) h =
    first_if v (epoch_of n == o.row.epoch) (of_member o.row.spec y (acks_append (beside o v) y n (find n o.row.appends)) (beside o v)) (at_recovery o v y n)
    (of_member o.row.spec y (acks_append (alone o) y n (find n o.row.appends)) (alone o)) (alone o) h (own_member o v y n)
own_by looks others o v y (bodies.SealedHere n k) h = both_if v (nat_lt o.row.epoch k) (preempt (beside o v) k) (beside o v) (preempt (alone o) k) (alone o) refl refl
own_by looks others o v y (bodies.LostHere n round generation end) h = first_if v (home_epoch n == o.row.epoch) _ _ _ _ h refl
own_by looks others o v y (bodies.CleanHere n z) h = first_if v (home_epoch n == o.row.epoch) _ _ _ _ h refl
own_by looks others o v y (bodies.TrimmedHere n t) h = absurd cc
own_by looks others o v y (bodies.DigestPage from upto trim lng es) h = absurd cc
own_by looks others o v y _ h = refl

pub none_by : (looks others : ℕ → View) (o : Own) (y : ℕ) (b : Body) → by_reply looks (alone o) y b ≡ in_whole None (by_reply others (alone o) y b)
none_by looks others o y (bodies.Stored n) = both_if None (epoch_of n == o.row.epoch) (of_member o.row.spec y (acks_append (alone o) y n (find n o.row.appends)) (alone o)) (alone o) (of_member o.row.spec y (acks_append (alone o) y n (find n o.row.appends)) (alone o)) (alone o) (own_member o None y n) refl
none_by looks others o y (bodies.SealedHere n k) = both_if None (nat_lt o.row.epoch k) (preempt (alone o) k) (alone o) (preempt (alone o) k) (alone o) refl refl
none_by looks others o y (bodies.LostHere n round generation end) = both_if None (home_epoch n == o.row.epoch) _ _ _ _ refl refl
none_by looks others o y (bodies.CleanHere n z) = both_if None (home_epoch n == o.row.epoch) _ _ _ _ refl refl
none_by looks others o y _ = refl

-- ---- what is for the recovery ----

-- a sequencer that has nothing but a recovery
abbrev pub only : ℕ → ℕ → ℕ → Recovery → Sequencer
only log epoch lce v = record { log = log; epoch = epoch; spec = v.spec; lce = lce; lng = 0; appends = []; lost = []; recovery = Some v; preempted = None; gone = false }

-- the recovery and the last closed epoch become those
abbrev pub rejoin : Own → Acts → Acts
rejoin o a = record a { sequencer = record (sequencer_of o) { recovery = a.sequencer.recovery; lce = a.sequencer.lce } }

abbrev of_only : Own → Recovery → Acts
of_only o v = does_nothing (only o.row.spec.log o.row.epoch o.lce v)

abbrev with_it : Own → Recovery → Acts
with_it o v = beside o (Some v)

join_if : (o : Own) (b : Bool) (a d a' d' : Acts) → a ≡ rejoin o a' → d ≡ rejoin o d' → (if b then a else d) ≡ rejoin o (if b then a' else d')
join_if o true a d a' d' p q = p
join_if o false a d a' d' p q = q

join_second : (o : Own) (b : Bool) (a d a' d' : Acts) → not b ≡ true → d ≡ rejoin o d' → (if b then a else d) ≡ rejoin o (if b then a' else d')
join_second o true a d a' d' h q = absurd cc
join_second o false a d a' d' h q = q

join_ready : (o : Own) (u v : Recovery) (g : Storing) → closes_ready (with_it o u) v g ≡ rejoin o (closes_ready (of_only o u) v g)
join_ready o u v g = join_if o (is_fully_ready v.spec g || is_ready_short v.spec v.lost g) _ _ _ _ refl refl

join_settles : (o : Own) (v : Recovery) (p : ℕ → Bool) (y : ℕ) (t : Stage) → settles (with_it o v) v p y t ≡ rejoin o (settles (of_only o v) v p y t)
join_settles o v p y (Seals d) = refl
join_settles o v p y (Stores g) = join_ready o v v (settled_by p y g)
join_settles o v p y (Closes z short) = refl

join_member : (o : Own) (v : Recovery) (p : ℕ → Bool) (y : ℕ)
    → of_member v.spec y (settles (with_it o v) v p y v.stage) (with_it o v) ≡ rejoin o (of_member v.spec y (settles (of_only o v) v p y v.stage) (of_only o v))
join_member o v p y = join_if o (is_in y (nodes_of v.spec)) (settles (with_it o v) v p y v.stage) (with_it o v) (settles (of_only o v) v p y v.stage) (of_only o v) (join_settles o v p y v.stage) refl

-- of three, but not the second
join_unspent : (o : Own) (e s : Bool) (a b d a' b' d' : Acts) → s ≡ false → a ≡ rejoin o a' → d ≡ rejoin o d' → (if e then a else if s then b else d) ≡ rejoin o (if e then a' else if s then b' else d')
join_unspent o true s a b d a' b' d' h p q = p
join_unspent o false true a b d a' b' d' h p q = absurd cc
join_unspent o false false a b d a' b' d' h p q = q

join_digest : (looks : ℕ → View) (o : Own) (u v : Recovery) (d : List Told) (asks : List (ℕ × Body)) → is_spent v.spec d ≡ false → with_digest looks (with_it o u) v d asks ≡ rejoin o (with_digest looks (of_only o u) v d asks)
join_digest looks o u v d asks h = join_unspent o (enough v.spec d) (is_spent v.spec d) (stores_plan (with_it o u) v (plan v.epoch false d)) (looks_now looks (with_it o u) v d) (seals_on (with_it o u) v d asks)
    (stores_plan (of_only o u) v (plan v.epoch false d)) (looks_now looks (of_only o u) v d) (seals_on (of_only o u) v d asks) h refl refl

join_lost : (looks : ℕ → View) (o : Own) (u v : Recovery) (t : Stage) → is_spent_stage v.spec t ≡ false → after_lost looks (with_it o u) v t ≡ rejoin o (after_lost looks (of_only o u) v t)
join_lost looks o u v (Seals d) h = join_digest looks o u v d [] h
join_lost looks o u v (Stores g) h = join_ready o u v g
join_lost looks o u v (Closes z short) h = refl

-- whether it is of the recovered epoch
join_here : (looks : ℕ → View) (o : Own) (u v : Recovery) (c : Bool) → (c && is_spent_stage v.spec v.stage) ≡ false → (if c then loses_node looks (with_it o u) v else with_it o u) ≡ rejoin o (if c then loses_node looks (of_only o u) v else of_only o u)
join_here looks o u v true h = join_lost looks o u v v.stage h
join_here looks o u v false h = refl

module _ (looks : ℕ → View) (o : Own) (v : Recovery) (y from upto trim lng : ℕ) (es : List Entry) where
  join_taken : (c : Bool) (d : List Told) → (c && is_spent v.spec d) ≡ false → (if c then adds_page looks (with_it o v) v y d else with_it o v) ≡ rejoin o (if c then adds_page looks (of_only o v) v y d else of_only o v)
  join_taken true d h = join_digest looks o v v d (next_ask y d) h
  join_taken false d h = refl

  join_digests : (t : Stage) → (takes_in y from t && is_spent_stage v.spec (page_told v.epoch y from upto trim lng es t)) ≡ false → digests looks (with_it o v) v y from upto trim lng es t ≡ rejoin o (digests looks (of_only o v) v y from upto trim lng es t)
  join_digests (Seals d) h = join_taken (takes_any y from d) (with_page v.epoch y from upto trim lng es d) h
  join_digests (Stores g) h = refl
  join_digests (Closes z short) h = refl

  join_page : (c : Bool) → ((c && takes_in y from v.stage) && is_spent_stage v.spec (page_told v.epoch y from upto trim lng es v.stage)) ≡ false
      → (if c then digests looks (with_it o v) v y from upto trim lng es v.stage else with_it o v) ≡ rejoin o (if c then digests looks (of_only o v) v y from upto trim lng es v.stage else of_only o v)
  join_page true h = join_digests v.stage h
  join_page false h = refl

pub join_by : (looks : ℕ → View) (o : Own) (v : Recovery) (y : ℕ) (b : Body) → is_of_earlier o.row.epoch b ≡ true → spends_in y b (Some v) ≡ false → by_reply looks (with_it o v) y b ≡ rejoin o (by_reply looks (of_only o v) y b)
join_by looks o v y (bodies.Stored n) h k = join_second o (epoch_of n == o.row.epoch) _ _ _ _ h (join_if o (v.epoch == epoch_of n) _ _ _ _ (join_member o v (λ k. k == n) y) refl)
join_by looks o v y (bodies.LostHere n round generation end) h k = join_second o (home_epoch n == o.row.epoch) _ _ _ _ h (join_here looks o v (recovery_lost y v) (v.epoch == home_epoch n) k)
join_by looks o v y (bodies.CleanHere n z) h k = join_second o (home_epoch n == o.row.epoch) _ _ _ _ h (join_if o (v.epoch == home_epoch n) _ _ _ _ refl refl)
join_by looks o v y (bodies.TrimmedHere n t) h k = join_if o (v.epoch == epoch_of n) _ _ _ _ (join_member o v (λ k. nat_le k t) y) refl
join_by looks o v y (bodies.DigestPage from upto trim lng es) h k = join_page looks o v y from upto trim lng es (v.epoch == epoch_of from) k
join_by looks o v y _ h k = absurd cc

-- ---- a recovery moves on, or its epoch is clean ----

-- a close that is due now, and wasn't before
abbrev pub fresh_tries : Option Recovery → Option Recovery → List Attempt
fresh_tries v w = if is_some (closing_in v) then [] else attempts (closing_in w)

abbrev pub moved : Sequencer → Recovery → List Attempt → List (ℕ × Body) → List (ℕ × Body) → Acts
moved q w ts bs ss = record (does_nothing (with_recovery (Some w) q)) { tries = ts; asks = bs; stores = ss }

pub record Moves (q : Sequencer) (v : Recovery) (a : Acts) : Type 0 where
  pub now : Recovery
  pub tries : List Attempt
  pub asks : List (ℕ × Body)
  pub stores : List (ℕ × Body)
  pub value : a ≡ moved q now tries asks stores
  pub epoch : now.epoch ≡ v.epoch
  pub spec : now.spec ≡ v.spec
  pub due : tries ≡ fresh_tries (Some v) (Some now)
  pub quiet : (tries ≡ []) ⊎ ((asks ≡ []) × (stores ≡ []))

-- what is done by it doesn't depend on what looks show
pub record Steady (q : Sequencer) (v : Recovery) (by_looks : (ℕ → View) → Acts) : Type 0 where
  pub acts : Acts
  pub same : (looks : ℕ → View) → by_looks looks ≡ acts
  pub moves : Moves q v acts

pub record Cleans (q : Sequencer) (v : Recovery) (b : Body) (by_looks : (ℕ → View) → Acts) : Type 0 where
  pub summary : Summary
  pub told : summary_told b ≡ Some summary
  pub value : (looks : ℕ → View) → by_looks looks ≡ passes looks (does_nothing q) v.epoch summary

abbrev pub Either : Sequencer → Recovery → Body → ((ℕ → View) → Acts) → Type 0
Either q v b f = Steady q v f ⊎ Cleans q v b f

pub not_fresh : (o : Option Due) → [] ≡ (if is_some o then [] else attempts o)
not_fresh None = refl
not_fresh (Some x) = refl

still : (q : Sequencer) (v : Recovery) → q.recovery ≡ Some v → Moves q v (does_nothing q)
still q v h = record {
  now = v;
  tries = [];
  asks = [];
  stores = [];
  value = ap (λ (w : Option Recovery). does_nothing (record q { recovery = w })) h;
  epoch = refl;
  spec = refl;
  due = not_fresh (closing_in (Some v));
  quiet = inl refl;
}

moves_if : (q : Sequencer) (v : Recovery) (c : Bool) (a d : Acts) → Moves q v a → Moves q v d → Moves q v (if c then a else d)
moves_if q v true a d p r = p
moves_if q v false a d p r = r

moves_second : (q : Sequencer) (v : Recovery) (c : Bool) (a d : Acts) → not c ≡ true → Moves q v d → Moves q v (if c then a else d)
moves_second q v true a d h r = absurd cc
moves_second q v false a d h r = r

abbrev at_stage : Recovery → Stage → Recovery
at_stage v t = record v { stage = t }

due_at : (v : Recovery) (t : Stage) (w : Recovery) (ts : List Attempt) → v.stage ≡ t → ts ≡ fresh_tries (Some (at_stage v t)) (Some w) → ts ≡ fresh_tries (Some v) (Some w)
due_at v t w ts h e = e ∙ ap (λ (x : Stage). fresh_tries (Some (at_stage v x)) (Some w)) (sym h)

-- a plan is closed where it is ready, by what the recovery has become
abbrev closes_so : Sequencer → Recovery → Storing → Stage
closes_so q w g = Closes (summary_of q.epoch g) (not (is_fully_ready w.spec g))

moves_ready : (q : Sequencer) (v w : Recovery) (old g : Storing) → v.stage ≡ Stores old → w.epoch ≡ v.epoch → w.spec ≡ v.spec → Moves q v (closes_ready (does_nothing q) w g)
moves_ready q v w old g h e f = moves_if q v (is_fully_ready w.spec g || is_ready_short w.spec w.lost g) _ _
    (record {
      now = at_stage w (closes_so q w g);
      tries = record { epoch = w.epoch; summary = summary_of q.epoch g; short = not (is_fully_ready w.spec g) } ∷ [];
      asks = [];
      stores = [];
      value = refl;
      epoch = e;
      spec = f;
      due = due_at v (Stores old) (at_stage w (closes_so q w g)) _ h refl;
      quiet = inr (refl, refl);
    })
    (record { now = at_stage w (Stores g); tries = []; asks = []; stores = []; value = refl; epoch = e; spec = f; due = due_at v (Stores old) (at_stage w (Stores g)) _ h refl; quiet = inl refl })

moves_settles : (q : Sequencer) (v : Recovery) (p : ℕ → Bool) (y : ℕ) (t : Stage) → q.recovery ≡ Some v → v.stage ≡ t → Moves q v (settles (does_nothing q) v p y t)
moves_settles q v p y (Seals d) k h = still q v k
moves_settles q v p y (Stores g) k h = moves_ready q v v g (settled_by p y g) h refl refl
moves_settles q v p y (Closes z short) k h = still q v k

-- of three, but not the second
moves_unspent : (q : Sequencer) (v : Recovery) (e s : Bool) (a b d : Acts) → s ≡ false → Moves q v a → Moves q v d → Moves q v (if e then a else if s then b else d)
moves_unspent q v true s a b d h p r = p
moves_unspent q v false true a b d h p r = absurd cc
moves_unspent q v false false a b d h p r = r

moves_digest : (looks : ℕ → View) (q : Sequencer) (v w : Recovery) (old d : List Told) (asks : List (ℕ × Body)) → v.stage ≡ Seals old → w.epoch ≡ v.epoch → w.spec ≡ v.spec → is_spent w.spec d ≡ false → Moves q v (with_digest looks (does_nothing q) w d asks)
moves_digest looks q v w old d asks h e f s =
    let p = plan w.epoch false d in
    moves_unspent q v (enough w.spec d) (is_spent w.spec d) (stores_plan (does_nothing q) w p) (looks_now looks (does_nothing q) w d) (seals_on (does_nothing q) w d asks) s
    (record { now = at_stage w (Stores (storing_of p)); tries = []; asks = []; stores = item_stores w.spec w.lost p.loss p.lng 0 (planned p.items); value = refl; epoch = e; spec = f; due = due_at v (Seals old) (at_stage w (Stores (storing_of p))) _ h refl; quiet = inl refl })
    (record { now = at_stage w (Seals d); tries = []; asks = asks; stores = []; value = refl; epoch = e; spec = f; due = due_at v (Seals old) (at_stage w (Seals d)) _ h refl; quiet = inl refl })

-- the node's page is taken
module _ (looks : ℕ → View) (q : Sequencer) (v : Recovery) (y from upto trim lng : ℕ) (es : List Entry) (k : q.recovery ≡ Some v) where
  moves_taken : (c : Bool) (old d : List Told) → v.stage ≡ Seals old → (c && is_spent v.spec d) ≡ false → Moves q v (if c then adds_page looks (does_nothing q) v y d else does_nothing q)
  moves_taken true old d h s = moves_digest looks q v v old d (next_ask y d) h refl refl s
  moves_taken false old d h s = still q v k

  moves_digests : (t : Stage) → v.stage ≡ t → (takes_in y from t && is_spent_stage v.spec (page_told v.epoch y from upto trim lng es t)) ≡ false → Moves q v (digests looks (does_nothing q) v y from upto trim lng es t)
  moves_digests (Seals d) h s = moves_taken (takes_any y from d) d (with_page v.epoch y from upto trim lng es d) h s
  moves_digests (Stores g) h s = still q v k
  moves_digests (Closes z short) h s = still q v k

  moves_page : (c : Bool) → ((c && takes_in y from v.stage) && is_spent_stage v.spec (page_told v.epoch y from upto trim lng es v.stage)) ≡ false
      → Moves q v (if c then digests looks (does_nothing q) v y from upto trim lng es v.stage else does_nothing q)
  moves_page true s = moves_digests v.stage refl s
  moves_page false s = still q v k

-- the node is lost
module _ (looks : ℕ → View) (q : Sequencer) (v : Recovery) (y : ℕ) (k : q.recovery ≡ Some v) where
  moves_lost : (t : Stage) → v.stage ≡ t → is_spent_stage v.spec (lost_stage y t) ≡ false → Moves q v (after_lost looks (does_nothing q) (recovery_lost y v) (lost_stage y t))
  moves_lost (Seals d) h s = moves_digest looks q v (recovery_lost y v) d (with_lost y d) [] h refl refl s
  moves_lost (Stores g) h s = moves_ready q v (recovery_lost y v) g g h refl refl
  moves_lost (Closes z short) h s = record {
    now = at_stage (recovery_lost y v) (Closes z short);
    tries = [];
    asks = [];
    stores = [];
    value = refl;
    epoch = refl;
    spec = refl;
    due = due_at v (Closes z short) (at_stage (recovery_lost y v) (Closes z short)) _ h refl;
    quiet = inl refl;
  }

  moves_here : (c : Bool) → (c && is_spent_stage v.spec (lost_stage y v.stage)) ≡ false → Moves q v (if c then loses_node looks (does_nothing q) (recovery_lost y v) else does_nothing q)
  moves_here true s = moves_lost v.stage refl s
  moves_here false s = still q v k

moves_member : (q : Sequencer) (v : Recovery) (p : ℕ → Bool) (y : ℕ) → q.recovery ≡ Some v → Moves q v (of_member v.spec y (settles (does_nothing q) v p y v.stage) (does_nothing q))
moves_member q v p y k = moves_if q v (is_in y (nodes_of v.spec)) (settles (does_nothing q) v p y v.stage) (does_nothing q) (moves_settles q v p y v.stage k refl) (still q v k)

steady : (q : Sequencer) (v : Recovery) (b : Body) (f : (ℕ → View) → Acts) (a : Acts) → ((looks : ℕ → View) → f looks ≡ a) → Moves q v a → Either q v b f
steady q v b f a h m = inl (record { acts = a; same = h; moves = m })

-- whether it is of the own epoch, and whether it is of the recovered one
abbrev clean_acts : Sequencer → Recovery → Summary → Bool → Bool → (ℕ → View) → Acts
clean_acts q v z own here looks = if own then preempt (does_nothing q) z.ballot else if here then passes looks (does_nothing q) v.epoch z else does_nothing q

clean_if : (q : Sequencer) (v : Recovery) (n : ℕ) (z : Summary) (own here : Bool) → q.recovery ≡ Some v → not own ≡ true → Either q v (bodies.CleanHere n z) (clean_acts q v z own here)
clean_if q v n z true here k h = absurd cc
clean_if q v n z false true k h = inr (record { summary = z; told = refl; value = λ looks. refl })
clean_if q v n z false false k h = steady q v (bodies.CleanHere n z) (clean_acts q v z false false) (does_nothing q) (λ looks. refl) (still q v k)

else_same : (c : Bool) (x a d : Acts) → a ≡ d → (if c then x else a) ≡ (if c then x else d)
else_same true x a d h = refl
else_same false x a d h = h

pub either_by : (log epoch lce : ℕ) (v : Recovery) (y : ℕ) (b : Body) → is_of_earlier epoch b ≡ true → spends_in y b (Some v) ≡ false → (looks : ℕ → View)
    → Either (only log epoch lce v) v b (λ looks. by_reply looks (does_nothing (only log epoch lce v)) y b)
either_by log epoch lce v y (bodies.Stored n) h s any = let q = only log epoch lce v in let b = bodies.Stored n in
    steady q v b (λ looks. by_reply looks (does_nothing q) y b) (by_reply any (does_nothing q) y b) (λ looks. refl)
    (moves_second q v (epoch_of n == epoch) (of_member q.spec y (acks_append (does_nothing q) y n (find n [])) (does_nothing q)) (if v.epoch == epoch_of n then of_member v.spec y (settles (does_nothing q) v (λ k. k == n) y v.stage) (does_nothing q) else does_nothing q) h
    (moves_if q v (v.epoch == epoch_of n) (of_member v.spec y (settles (does_nothing q) v (λ k. k == n) y v.stage) (does_nothing q)) (does_nothing q) (moves_member q v (λ k. k == n) y refl) (still q v refl)))
either_by log epoch lce v y (bodies.LostHere n round generation end) h s any = let q = only log epoch lce v in let b = bodies.LostHere n round generation end in
    steady q v b (λ looks. by_reply looks (does_nothing q) y b) (by_reply any (does_nothing q) y b)
    (λ looks. else_same (home_epoch n == epoch) (becomes (does_nothing q) (record q { lost = with_one y [] })) _ _ (lost_here looks any (does_nothing q) (recovery_lost y v) (v.epoch == home_epoch n) s))
    (moves_second q v (home_epoch n == epoch) (becomes (does_nothing q) (record q { lost = with_one y [] })) (if v.epoch == home_epoch n then loses_node any (does_nothing q) (recovery_lost y v) else does_nothing q) h
    (moves_here any q v y refl (v.epoch == home_epoch n) s))
either_by log epoch lce v y (bodies.CleanHere n z) h s any = clean_if (only log epoch lce v) v n z (home_epoch n == epoch) (v.epoch == home_epoch n) refl h
either_by log epoch lce v y (bodies.TrimmedHere n t) h s any = let q = only log epoch lce v in let b = bodies.TrimmedHere n t in
    steady q v b (λ looks. by_reply looks (does_nothing q) y b) (by_reply any (does_nothing q) y b) (λ looks. refl)
    (moves_if q v (v.epoch == epoch_of n) (of_member v.spec y (settles (does_nothing q) v (λ k. nat_le k t) y v.stage) (does_nothing q)) (does_nothing q) (moves_member q v (λ k. nat_le k t) y refl) (still q v refl))
either_by log epoch lce v y (bodies.DigestPage from upto trim lng es) h s any = let q = only log epoch lce v in let b = bodies.DigestPage from upto trim lng es in
    steady q v b (λ looks. by_reply looks (does_nothing q) y b) (by_reply any (does_nothing q) y b)
    (λ looks. page_here looks any (does_nothing q) v y from upto trim lng es (v.epoch == epoch_of from) s)
    (moves_page any q v y from upto trim lng es refl (v.epoch == epoch_of from) s)
either_by log epoch lce v y _ h s any = absurd cc
