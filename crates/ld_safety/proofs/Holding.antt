-- What readers and recoveries hold was sent, a ballot plans an epoch once, and a log that isn't lost has all of the epochs that were.
use Rattle.std.proofs.Common.{◌≡◌, ◌∙◌, ◌⊎◌, ◌≤◌, ◌<◌, ℕ, ◌+◌, ◌-◌, inl, inr, refl, ap, sym, subst, Bool, true, false, not, ◌&&◌, ◌||◌, ◌==◌, nat_lt, nat_le, cond, if◌then◌else◌, List, [], ◌∷◌, ◌++◌, filter, flat_map, Option, Some, None, is_some, is_none, arith}
use Rattle.std.proofs.lemmas.Bool.{cases_Bool, and_parts, eqb-true, leb-true, ltb-true, ltb-false}
use Rattle.ld_table.specs.Table.{find}
use Rattle.ld_table.specs.Named.{find_named}
use Rattle.ld_table.specs.Words.{how_many, numbers_from}
use Rattle.ld_lsn.specs.Number.{epoch_of, esn_of, numbered, home_epoch, last_esn}
use Rattle.ld_config.specs.declared.config.Config.{Config}
use Rattle.ld_machine.specs.Config.{looks_at}
use Rattle.ld_schedule.specs.declared.event.Event.{Event}
use Rattle.ld_schedule.specs.declared.event.Event.TheVariants as events
use Rattle.ld_msg.specs.declared.msg.Entry.{Entry}
use Rattle.ld_msg.specs.declared.msg.Summary.{Summary}
use Rattle.ld_msg.specs.declared.msg.Who.{Who}
use Rattle.ld_msg.specs.declared.msg.Who.TheVariants as whos
use Rattle.ld_msg.specs.declared.msg.Msg.{Msg}
use Rattle.ld_msg.specs.declared.msg.Body.{Body}
use Rattle.ld_msg.specs.declared.msg.Body.TheVariants as bodies
use Rattle.ld_msg.specs.Digest.{Told, enough, is_spent, with_page, with_lost}
use Rattle.ld_msg.specs.Network.{message}
use Rattle.ld_msg.specs.Sequencer.{Sequencer, Recovery, Stage, Seals, Stores, Closes, takes_any, recovery_lost}
use Rattle.ld_op.specs.Plain.{Plain, Log, log_of}
use Rattle.ld_op.specs.Ticks.{missing, missing_of, numbers_of}
use Rattle.ld_machine.specs.State.{State, node_at}
use Rattle.ld_machine.specs.Facts.{Happened}
use Rattle.ld_machine.specs.World.{World, Made, In, begin, MayHold, makes, makes_by, lets_lose, made_in, made_lost, made_with, made_by, made_for, made_at, made_anew, made_again, made_retried, made_on, page_from, is_made}
use Rattle.ld_machine.specs.Invariant.{HeldWasSent, OnePlan}
use Rattle.ld_machine.specs.Run.{Move, after_step, world_after, trace}
use Rattle.ld_machine.specs.State.{sequencer_of}
use Rattle.ld_safety.proofs.Lists.{cond_both, some_or_none, how_many-yes, how_many-no}
use Rattle.ld_safety.proofs.Names.{found}
use Rattle.ld_safety.proofs.Members.{find_in, In_numbers}
use Rattle.ld_safety.proofs.Rising.{found_rising}
use Rattle.ld_safety.proofs.Traces.{Keeps, later, beside_kept, both_kept}
use Rattle.ld_safety.proofs.Base.{Base}
use Rattle.ld_safety.proofs.GivenSteps.{BaseGiven}
use Rattle.ld_safety.proofs.Protocol.{plan_of}
use Rattle.ld_safety.proofs.Digesting.{InRecovery, RecoveryFine, StageFine}
use Rattle.ld_safety.proofs.Along.{Along}
use Rattle.ld_safety.proofs.AlongSteps.{along_kept, new_plan}
use Rattle.ld_safety.proofs.Agreed.{basis_of}
use Rattle.ld_safety.proofs.LostAlong.{RoundsOf, Asked, asked_kept}
use Rattle.ld_safety.proofs.LostFull.{FullLog}
use Rattle.ld_safety.proofs.LostFullKept.{AllFull}
use Rattle.ld_safety.proofs.LostJoined.{bounded_here, summaries_here}
use Rattle.ld_machine.specs.Calm.{event_of}

-- ---- what is held ----
module _ (c : Config) (hs : List Happened) (w : World) (B : Base c hs w) (R : Along c hs w) where
  in_recovery : (q : List ℕ × Sequencer) (v : Recovery) → In q w.state.sequencers → q.1.recovery ≡ Some v → InRecovery c hs w.state.network.sent w.made w.state.register q.1.log q.1.epoch v
  in_recovery q v i f = subst (RecoveryFine c hs w.state.network.sent w.made w.state.register q.1.log q.1.epoch) f (R.recoveries q.0 q.1 (found w.state.sequencers q B.0.0.0 i))

  pub held_here : RoundsOf w → HeldWasSent w
  held_here H = record {
    readers = λ d y h i f. H.held d.0 d.1 (y, h) (found w.state.readers d B.0.0.1 i) (find_in y d.1.held h f);
    digests = λ q v ts t e i f g j k. let z = (subst (StageFine c hs w.state.network.sent w.made w.state.register v.spec q.1.log q.1.epoch v.epoch) g (in_recovery q v i f).stage).told t j in let p = z.paged e k in (p.from, p.upto, p.trim, p.lng, p.entries, p.page, p.there);
  }

-- ---- plans ----
abbrev AtMostOne : List Made → Type 0
AtMostOne ms = (ms ≡ []) ⊎ ((m : Made) × (ms ≡ m ∷ []))

just_one : (m : Made) → AtMostOne (m ∷ [])
just_one m = inr (m, refl)

makes_one : (c : Config) (s : State) (q : Sequencer) (v : Recovery) (d : List Told) → AtMostOne (makes_by c s q v d)
makes_one c s q v d = cond_both (enough v.spec d) (makes s q v false d) (if is_spent v.spec d && lets_lose q (looks_at c s.register q.log v.epoch) then makes s q v true d else []) AtMostOne (λ t. just_one _)
    (λ t. cond_both (is_spent v.spec d && lets_lose q (looks_at c s.register q.log v.epoch)) (makes s q v true d) [] AtMostOne (λ u. just_one _) (λ u. inl refl))

in_one : (c : Config) (s : State) (q : Sequencer) (v : Recovery) (g : Stage) (y from upto trim lng : ℕ) (es : List Entry) → AtMostOne (made_in c s q v g y from upto trim lng es)
in_one c s q v (Seals d) y from upto trim lng es = cond_both (takes_any y from d) (makes_by c s q v (with_page v.epoch y from upto trim lng es d)) [] AtMostOne (λ t. makes_one c s q v (with_page v.epoch y from upto trim lng es d)) (λ t. inl refl)
in_one c s q v (Stores g) y from upto trim lng es = inl refl
in_one c s q v (Closes z short) y from upto trim lng es = inl refl

lost_one : (c : Config) (s : State) (q : Sequencer) (v : Recovery) (g : Stage) (y : ℕ) → AtMostOne (made_lost c s q v g y)
lost_one c s q v (Seals d) y = makes_one c s q v (with_lost y d)
lost_one c s q v (Stores g) y = inl refl
lost_one c s q v (Closes z short) y = inl refl

with_one_made : (c : Config) (s : State) (q : Sequencer) (o : Option Recovery) (y : ℕ) (b : Body) → AtMostOne (made_with c s q o y b)
with_one_made c s q None y b = inl refl
with_one_made c s q (Some v) y (bodies.DigestPage from upto trim lng es) = cond_both (v.epoch == epoch_of from) (made_in c s q v v.stage y from upto trim lng es) [] AtMostOne (λ t. in_one c s q v v.stage y from upto trim lng es) (λ t. inl refl)
with_one_made c s q (Some v) y (bodies.LostHere n round generation end) = cond_both ((v.epoch == home_epoch n) && not (home_epoch n == q.epoch)) (made_lost c s q (recovery_lost y v) v.stage y) [] AtMostOne (λ t. lost_one c s q (recovery_lost y v) v.stage y) (λ t. inl refl)
with_one_made c s q (Some v) y _ = inl refl

by_one : (c : Config) (s : State) (o : Option (List ℕ × Sequencer)) (y : ℕ) (b : Body) → AtMostOne (made_by c s o y b)
by_one c s None y b = inl refl
by_one c s (Some q) y b = cond_both (q.1.gone || is_some q.1.preempted) [] (made_with c s q.1 q.1.recovery y b) AtMostOne (λ t. inl refl) (λ t. with_one_made c s q.1 q.1.recovery y b)

for_one : (c : Config) (s : State) (m : Msg) (w : Who) → AtMostOne (made_for c s m w)
for_one c s m (whos.Sequencer b) = by_one c s (sequencer_of m.log b s.sequencers) (page_from m.from) m.body
for_one c s m _ = inl refl

at_one : (c : Config) (s : State) (o : Option Msg) → AtMostOne (made_at c s o)
at_one c s None = inl refl
at_one c s (Some m) = for_one c s m m.to

anew_one : (c : Config) (s : State) (q : Sequencer) (v : Recovery) (g : Stage) → AtMostOne (made_anew c s q v g)
anew_one c s q v (Seals d) = cond_both (is_spent v.spec d) (makes_by c s q v d) [] AtMostOne (λ t. makes_one c s q v d) (λ t. inl refl)
anew_one c s q v (Stores g) = inl refl
anew_one c s q v (Closes z short) = inl refl

again_one : (c : Config) (s : State) (q : Sequencer) (o : Option Recovery) → AtMostOne (made_again c s q o)
again_one c s q None = inl refl
again_one c s q (Some v) = anew_one c s q v v.stage

retried_one : (c : Config) (s : State) (o : Option Sequencer) → AtMostOne (made_retried c s o)
retried_one c s None = inl refl
retried_one c s (Some q) = cond_both (q.gone || is_some q.preempted) [] (made_again c s q q.recovery) AtMostOne (λ t. inl refl) (λ t. again_one c s q q.recovery)

on_one : (c : Config) (s : State) (e : Event) → AtMostOne (made_on c s e)
on_one c s (events.Deliver i) = at_one c s (message s.network i)
on_one c s (events.Retry name) = retried_one c s (find_named name s.sequencers)
on_one c s _ = inl refl

made_is : (l e b : ℕ) (m : Made) → is_made l e b m ≡ true → m ≡ plan_of l e b (basis_of m)
made_is l e b m t = let p = and_parts ((m.log == l) && (m.epoch == e)) (m.ballot == b) t in let q = and_parts (m.log == l) (m.epoch == e) p.0 in λ i. record { log = eqb-true _ _ q.0 i; epoch = eqb-true _ _ q.1 i; ballot = eqb-true _ _ p.1 i; loss = m.loss; digest = m.digest; gone = m.gone }

one_plan_step : (c : Config) (hs : List Happened) (w : World) (e : Move) → BaseGiven c hs w × Along c hs w → OnePlan w → OnePlan (after_step c w e)
one_plan_step c hs w e B h l k b = elim (on_one c w.state (event_of e)) [
  | inl a ↦ subst (λ ms. how_many (is_made l k b) (ms ++ w.made) ≤ 1) (sym a) (h l k b)
  | inr a ↦ subst (λ ms. how_many (is_made l k b) (ms ++ w.made) ≤ 1) (sym a.1) (elim (cases_Bool (is_made l k b a.0)) [
    | inl t ↦ (let z = how_many-yes (is_made l k b) a.0 w.made t in let y = no_other a.0 t (subst (λ ms. In a.0 ms) (sym a.1) (inl refl)) in omega arith)
    | inr t ↦ (let z = how_many-no (is_made l k b) a.0 w.made t in let y = h l k b in omega arith)
  ])
] where
  no_other : (m : Made) → is_made l k b m ≡ true → In m (made_on c w.state (event_of e)) → how_many (is_made l k b) w.made ≡ 0
  no_other m t i = elim (some_or_none (is_made l k b) w.made) [
    | inr z ↦ z
    | inl x ↦ absurd ((new_plan c hs w e B.0.0 B.0.1 B.1 l k b (basis_of m) (subst (λ v. In v (made_on c w.state (event_of e))) (made_is l k b m t) i)).0.first (basis_of x.0) (subst (λ v. In v w.made) (made_is l k b x.0 x.2) x.1))
  ]

abbrev pub Planning : Config → List Happened → World → Type 0
Planning c hs w = (BaseGiven c hs w × Along c hs w) × OnePlan w

pub planning_kept : (c : Config) → Keeps c (Planning c)
planning_kept c = beside_kept c (λ hs w. BaseGiven c hs w × Along c hs w) (λ hs w. OnePlan w) (along_kept c) (λ l e b. omega arith) (λ hs w e B C h. one_plan_step c hs w e B h)

-- ---- logs that aren't lost ----
none_filtered : {X : Type 0} (p : X → Bool) (xs : List X) → ((x : X) → In x xs → p x ≡ false) → filter p xs ≡ []
none_filtered p [] h = refl
none_filtered p (x ∷ xs) h = ap (λ b. cond b (x ∷ filter p xs) (filter p xs)) (h x (inl refl)) ∙ none_filtered p xs (λ y i. h y (inr i))

none_mapped : {X Y : Type 0} (f : X → List Y) (xs : List X) → ((x : X) → In x xs → f x ≡ []) → flat_map f xs ≡ []
none_mapped f [] h = refl
none_mapped f (x ∷ xs) h = ap (λ ys. ys ++ flat_map f xs) (h x (inl refl)) ∙ none_mapped f xs (λ y i. h y (inr i))

record NumberOf (g : Log) (e n : ℕ) (y : Summary) : Type 0 where
  above : g.trim < n
  epoch : epoch_of n ≡ e
  place : 0 < esn_of n
  below : esn_of n < y.end

number_of : (g : Log) (e n : ℕ) (y : Summary) → y.end ≤ last_esn → In n (numbers_of g e y) → NumberOf g e n y
number_of g e n y b = cond_both (nat_lt g.trim (numbered e 1)) 1 (g.trim + 1 - numbered e 0) (λ a. In n (numbers_from (numbered e a) (y.end - a)) → NumberOf g e n y)
    (λ t i. let z = In_numbers n (numbered e 1) (y.end - 1) i in let u = ltb-true _ _ t in let p = z.0 in let q = z.1 in record { above = omega arith; epoch = omega arith; place = omega arith; below = omega arith })
    (λ t i. let z = In_numbers n (numbered e (g.trim + 1 - numbered e 0)) (y.end - (g.trim + 1 - numbered e 0)) i in let u = ltb-false _ _ t in let p = z.0 in let q = z.1 in record { above = omega arith; epoch = omega arith; place = omega arith; below = omega arith })

not_missing : (o : Option Entry) → is_some o ≡ true → is_none o ≡ false
not_missing None h = absurd cc
not_missing (Some e) h = refl

nothing_missing : (g : Log) → FullLog g → g.lost ≡ false → ((q : ℕ × Summary) → In q g.summaries → q.1.end ≤ last_esn) → missing g ≡ []
unfolding missing
nothing_missing g F l b = none_mapped (missing_of g) g.summaries (λ q i. cond_both (nat_le q.0 g.lost_to) (filter (λ n. is_none (find n g.entries)) (numbers_of g q.0 q.1)) [] (λ v. v ≡ []) (λ t. none_filtered (λ n. is_none (find n g.entries)) (numbers_of g q.0 q.1) (λ n j.
    let k = number_of g q.0 n q.1 (b q i) j in
    not_missing (find n g.entries) (F.full l n q.1 (subst (λ e. find e g.summaries ≡ Some q.1) (sym k.epoch) (found_rising q g.summaries F.rising i)) (let z = leb-true _ _ t in let y = k.epoch in omega arith) k.above k.place k.below))) (λ t. refl))

pub full_here : (c : Config) (hs : List Happened) (w : World) → BaseGiven c hs w × Along c hs w → AllFull w → (y : ℕ) (p : Plain) → MayHold (node_at w.state y) p → (l : ℕ) → (log_of p l).lost ≡ false → missing (log_of p l) ≡ []
full_here c hs w B F y p m l h = nothing_missing (log_of p l) (F y p m l) h (λ q i.
    let f = found_rising q (log_of p l).summaries (F y p m l).rising i in let pos = (F y p m l).positive q i in
    (bounded_here c hs w B l q.0 q.1 (summaries_here c hs w B y l q.0 p q.1 m pos f).0 pos).1)

-- ---- the laws ----
pub what_is_held_was_sent : (c : Config) (es : List Move) → HeldWasSent (world_after c (begin c) es)
what_is_held_was_sent c es =
    let P : List Happened → World → Type 0 = λ hs w. (BaseGiven c hs w × Along c hs w) × Asked c hs w in
    let K : Keeps c P = both_kept c (λ hs w. BaseGiven c hs w × Along c hs w) (Asked c) (along_kept c) (asked_kept c) in
    let p = later c P K [] (begin c) es K.begins in held_here c (trace c (begin c) es) (world_after c (begin c) es) p.0.0.0 p.0.1 p.1.1.1

pub plans_are_made_once : (c : Config) (es : List Move) → OnePlan (world_after c (begin c) es)
plans_are_made_once c es = (later c (Planning c) (planning_kept c) [] (begin c) es (planning_kept c).begins).1
