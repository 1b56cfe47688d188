-- From the retry that begins a log's part of a calm until nothing is new, all that the log's last sequencer waits for is under way; and then it is at rest.
use Rattle.std.proofs.Common.{◌≡◌, ◌∙◌, ◌⊎◌, ◌≤◌, ℕ, inl, inr, refl, ap, sym, subst, Bool, true, false, ◌&&◌, ◌==◌, if◌then◌else◌, List, [], ◌∷◌, Option, Some, None, arith, eq-eqb}
use Rattle.std.proofs.lemmas.Bool.{and_from}
use Rattle.ld_table.specs.Named.{same, find_named, put_named}
use Rattle.ld_table.proofs.NameLaws.{same-self}
use Rattle.ld_config.specs.declared.config.Config.{Config}
use Rattle.ld_schedule.specs.declared.event.Event.TheVariants as events
use Rattle.ld_msg.specs.declared.msg.Who.TheVariants as whos
use Rattle.ld_msg.specs.declared.msg.Msg.{Msg}
use Rattle.ld_msg.specs.declared.msg.Body.{Body}
use Rattle.ld_msg.specs.Network.{message, oldest_new}
use Rattle.ld_msg.specs.Sequencer.{Sequencer}
use Rattle.ld_op.specs.declared.op.Op.{Op}
use Rattle.ld_machine.specs.State.{State, finish, node_at, sequencer_of}
use Rattle.ld_machine.specs.World.{In}
use Rattle.ld_machine.specs.Step as Step
use Rattle.ld_machine.specs.Calm.{Takes, Calms, moved, last_of}
use Rattle.ld_safety.proofs.Lists.{Some_inj, not_none}
use Rattle.ld_safety.proofs.Names.{found, named_cases, sequencer_found}
use Rattle.ld_safety.proofs.Appends.{RowOf}
use Rattle.ld_safety.proofs.Base.{counts_of}
use Rattle.ld_safety.proofs.Continues.{reply_continues, retry_continues}
use Rattle.ld_safety.proofs.Events.{reply_call, retry_call}
use Rattle.ld_calm.proofs.Weights.{oldest_is}
use Rattle.ld_calm.proofs.Weights as weights
use Rattle.ld_served.proofs.Phases.{Unlimited}
use Rattle.ld_served.proofs.Stepping.{delivered, announcing}
use Rattle.ld_served.proofs.Last.{LastOf, last_put, last_is, last_none, named_in}
use Rattle.ld_served.proofs.Kept.{Good}
use Rattle.ld_served.proofs.UnderWay.{UnderWay}
use Rattle.ld_served.proofs.Going.{Goes, drained}
use Rattle.ld_served.proofs.Replying.{names}
use Rattle.ld_served.proofs.Passing.{passes_on}
use Rattle.ld_served.proofs.Heard.{hears_goes}
use Rattle.ld_served.proofs.Announced.{announced_goes}
use Rattle.ld_served.proofs.Resting.{AtRest}

-- ---- who is the last one ----

-- a log has one last sequencer
pub one_last : (c : Config) (s : State) → Good c s → (l : ℕ) (n m : List ℕ) (q p : Sequencer) → LastOf s.sequencers l n q → LastOf s.sequencers l m p → (n ≡ m) × (q ≡ p)
one_last c s A l n m q p L M =
    let up : q.epoch ≤ p.epoch = M.most n q L.named L.log in
    let down : p.epoch ≤ q.epoch = L.most m p M.named M.log in
    let one : n ≡ m = A.of_run.known.lined.0.0.0.0.1.epochs.once n m q p L.named M.named (L.log ∙ sym M.log) (omega arith) in
    (one, Some_inj (sym L.named ∙ (ap (λ k. find_named k s.sequencers) one ∙ M.named)))

-- where one goes on under its name, the last one is it, or is another one, as before
put_apart : (qs : List (List ℕ × Sequencer)) (name : List ℕ) (q p : Sequencer) (l : ℕ) (n : List ℕ) (r : Sequencer) → find_named name qs ≡ Some q → p.log ≡ q.log → p.epoch ≡ q.epoch → LastOf (put_named name p qs) l n r
    → ((r ≡ p) × LastOf qs l name q) ⊎ ((n ≡ name → ⊥) × LastOf qs l n r)
put_apart qs name q p l n r f lg ep L = elim (named_cases n name p qs) [
  | inl e ↦ inl (
    Some_inj (sym L.named ∙ e.1),
    elim (last_put qs name q p l n r f lg ep L) [
      | inl z ↦ z.2
      | inr z ↦ subst (λ x. LastOf qs l name x) (Some_inj (sym z.named ∙ (ap (λ k. find_named k qs) e.0 ∙ f))) (subst (λ k. LastOf qs l k r) e.0 z)
    ],
  )
  | inr e ↦ inr (other e.0, elim (last_put qs name q p l n r f lg ep L) [ inl z ↦ absurd (other e.0 z.0) | inr z ↦ z ])
] where
  other : same n name ≡ false → n ≡ name → ⊥
  other t e = let z : same n name ≡ true = subst (λ k. same n k ≡ true) e (same-self n) in let u : true ≡ false = sym z ∙ t in cc

-- where one of a log and an epoch is there, one is found
one_found : (l e : ℕ) (qs : List (List ℕ × Sequencer)) (x : List ℕ × Sequencer) → In x qs → x.1.log ≡ l → x.1.epoch ≡ e → (p : List ℕ × Sequencer) × (sequencer_of l e qs ≡ Some p)
one_found l e [] x i lg ep = absurd i
one_found l e (y ∷ qs) x i lg ep = by_test ((y.1.log == l) && (y.1.epoch == e)) refl (λ j. one_found l e qs x j lg ep) i where
  by_test : (b : Bool) → ((y.1.log == l) && (y.1.epoch == e)) ≡ b → (In x qs → (p : List ℕ × Sequencer) × (sequencer_of l e qs ≡ Some p)) → In x (y ∷ qs) → (p : List ℕ × Sequencer) × ((if b then Some y else sequencer_of l e qs) ≡ Some p)
  by_test true t ih j = (y, refl)
  by_test false t ih (inl f) = absurd (let z = and_from (y.1.log == l) (y.1.epoch == e) (eq-eqb y.1.log l (ap (λ (v : List ℕ × Sequencer). v.1.log) (sym f) ∙ lg)) (eq-eqb y.1.epoch e (ap (λ (v : List ℕ × Sequencer). v.1.epoch) (sym f) ∙ ep)) in let u : true ≡ false = sym z ∙ t in cc)
  by_test false t ih (inr j) = ih j

-- ---- while it waits ----

-- all that the log's last sequencer waits for is under way
abbrev pub AllGoes : State → ℕ → Type 0
AllGoes s l = (name : List ℕ) (q : Sequencer) → LastOf s.sequencers l name q → Goes (UnderWay s.network) q

module _ (c : Config) (s : State) (A : Good c s) (l : ℕ) where
  rows : (name : List ℕ) (q : Sequencer) → find_named name s.sequencers ≡ Some q → RowOf q
  rows name q f = (counts_of c A.of_run.steps (record { state = s; made = A.of_run.made; joined = A.of_run.joined }) A.of_run.known.lined.0.0.0 name q f).row

  handled_same : (t : State) (n : ℕ) (m : Msg) (o : Option Op) (a : Option Body) → (Step.handles t n m o a).state.sequencers ≡ t.sequencers
  handled_same t n m None a = refl
  handled_same t n m (Some o) a = refl

  -- where the last one would be dropped there is none, as none is dropped
  pub none_last : ((q : List ℕ × Sequencer) → last_of s l ≡ Some q → q.1.gone ≡ true) → (name : List ℕ) (q : Sequencer) → LastOf s.sequencers l name q → ⊥
  none_last h name q L = by_last (last_of s l) refl where
    by_last : (o : Option (List ℕ × Sequencer)) → last_of s l ≡ o → ⊥
    by_last None e = last_none s l name q e L
    by_last (Some p) e = let z = (A.free l p.0 p.1 (last_is s l p (names c s A).0 e)).there in let u : true ≡ false = sym (h p e) ∙ z in cc

  -- from the retry on
  pub all_announced : (q : List ℕ × Sequencer) → last_of s l ≡ Some q → q.1.gone ≡ false → Unlimited (moved c s (Calms q.0)).lines → AllGoes (moved c s (Calms q.0)).state l
  unfolding finish
  all_announced q e g u name p L = subst (Goes (UnderWay (moved c s (Calms q.0)).state.network)) (sym is) (announced_goes c s A l q e g u) where
    M : LastOf s.sequencers l q.0 q.1
    M = last_is s l q (names c s A).0 e

    is : p ≡ (retry_call c s q.1).acts.sequencer
    is = announcing c s q.0 q.1 (λ d. LastOf d.state.sequencers l name p → p ≡ (retry_call c s q.1).acts.sequencer) M.named g (λ N. let z = retry_continues c s q.1 (rows q.0 q.1 M.named) g in
        elim (put_apart s.sequencers q.0 q.1 _ l name p M.named z.log z.epoch N) [ inl a ↦ a.0 | inr a ↦ absurd (a.0 (one_last c s A l name q.0 p q.1 a.1 M).0) ]) L

  -- by each delivery
  module _ (i : ℕ) (m : Msg) (e : message s.network i ≡ Some m) where
    -- the last one hears it
    record Heard (p : Sequencer) : Type 0 where
      pub named : List ℕ
      pub before : Sequencer
      pub last : LastOf s.sequencers l named before
      pub to : m.to ≡ whos.Sequencer before.epoch
      pub of_log : m.log ≡ before.log
      pub is : p ≡ (reply_call c s before (Step.sender_node m.from) m.body).acts.sequencer

    Unheard_by : Sequencer → Type 0
    Unheard_by q = m.to ≡ whos.Sequencer q.epoch → m.log ≡ q.log → ⊥

    -- it does, or is as before
    Follows : List (List ℕ × Sequencer) → Type 0
    Follows rs = (name : List ℕ) (p : Sequencer) → LastOf rs l name p → Heard p ⊎ (LastOf s.sequencers l name p × Unheard_by p)

    -- a message comes to one alone
    same_one : (k : Msg) → message s.network i ≡ Some k → k ≡ m
    same_one k f = Some_inj (sym f ∙ e)

    -- the last one hears what comes to it
    not_unheard : (name : List ℕ) (p : Sequencer) → LastOf s.sequencers l name p → ((b : ℕ) → m.to ≡ whos.Sequencer b → (q : List ℕ × Sequencer) → sequencer_of m.log b s.sequencers ≡ Some q → q.1.gone ≡ true) → Unheard_by p
    unfolding Unheard_by
    not_unheard name p L h to of_log =
        let x = named_in name s.sequencers p L.named in
        let z = one_found m.log p.epoch s.sequencers x.0 x.1 (ap (λ (v : Sequencer). v.log) x.2 ∙ sym of_log) (ap (λ (v : Sequencer). v.epoch) x.2) in
        let y = sequencer_found m.log p.epoch s.sequencers z.0 z.1 in
        let f : find_named z.0.0 s.sequencers ≡ Some z.0.1 = found s.sequencers z.0 (names c s A).0 y.there in
        let one : z.0.0 ≡ name = A.of_run.known.lined.0.0.0.0.1.epochs.once z.0.0 name z.0.1 p f L.named (y.log ∙ of_log) y.epoch in
        let is : z.0.1 ≡ p = Some_inj (sym f ∙ (ap (λ k. find_named k s.sequencers) one ∙ L.named)) in
        let there : p.gone ≡ false = (A.free l name p L).there in
        let gone : p.gone ≡ true = subst (λ (v : Sequencer). v.gone ≡ true) is (h p.epoch to z.0 z.1) in
        let u : true ≡ false = sym gone ∙ there in cc

    as_before : (Q : (p : Sequencer) → Unheard_by p) → Follows s.sequencers
    unfolding Follows
    as_before Q name p L = inr (L, Q p)

    follows : Follows (moved c s (Takes (events.Deliver i))).state.sequencers
    unfolding finish Follows Unheard_by
    follows = delivered c s i (λ d. Follows d.state.sequencers) (names c s A) (record {
      unheard = λ k name p L. inr (L, not_unheard name p L (k m e).sequencer);
      none = λ k. absurd (not_none (sym k ∙ e));
      to_node = λ n k f t v. subst Follows (sym (handled_same _ n k (Step.node_handles n (node_at s n) k).op (Step.node_handles n (node_at s n) k).answer))
          (as_before (λ p to of_log. let z : whos.Node n ≡ whos.Sequencer p.epoch = sym t ∙ (ap (λ (x : Msg). x.to) (same_one k f) ∙ to) in cc));
      to_sequencer = λ n q k f t g v name p L. (let z = reply_continues c s q (rows n q v.named) n (Step.sender_node k.from) k.body v.there in
          elim (put_apart s.sequencers n q _ l name p v.named z.log z.epoch L) [
            | inl a ↦ inl (record {
              named = n;
              before = q;
              last = a.1;
              to = ap (λ (x : Msg). x.to) (sym (same_one k f)) ∙ t;
              of_log = ap (λ (x : Msg). x.log) (sym (same_one k f)) ∙ g;
              is = a.0 ∙ ap (λ (x : Msg). (reply_call c s q (Step.sender_node x.from) x.body).acts.sequencer) (same_one k f);
            })
            | inr a ↦ inr (
              a.1,
              λ to of_log. a.0 (
                  let b : whos.Sequencer p.epoch ≡ whos.Sequencer q.epoch = sym to ∙ (ap (λ (x : Msg). x.to) (sym (same_one k f)) ∙ t) in
                  A.of_run.known.lined.0.0.0.0.1.epochs.once name n p q a.1.named v.named (sym of_log ∙ (ap (λ (x : Msg). x.log) (sym (same_one k f)) ∙ g)) (cc)),
            )
          ]);
      to_reader = λ n d k f t v. as_before (λ p to of_log. let z : whos.Reader d.number ≡ whos.Sequencer p.epoch = sym t ∙ (ap (λ (x : Msg). x.to) (same_one k f) ∙ to) in cc);
    })

    delivered_goes : In i s.network.fresh → Unlimited (moved c s (Takes (events.Deliver i))).lines → AllGoes s l → AllGoes (moved c s (Takes (events.Deliver i))).state l
    unfolding Follows Unheard_by
    delivered_goes new u G name p L = elim (follows name p L) [
      | inl h ↦ subst (Goes (UnderWay (moved c s (Takes (events.Deliver i))).state.network)) (sym h.is) (hears_goes c s A l h.named h.before h.last i m e h.to h.of_log u (G h.named h.before h.last))
      | inr a ↦ passes_on c s A l name p a.0 i m e a.1 u (G name p a.0)
    ]

  pub all_goes_on : (i : ℕ) → oldest_new s.network ≡ Some i → Unlimited (moved c s (Takes (events.Deliver i))).lines → AllGoes s l → AllGoes (moved c s (Takes (events.Deliver i))).state l
  all_goes_on i f u G = let new = oldest_is s.network i f in let z = weights.there s.network i A.of_run.known.places new in delivered_goes i z.0 z.1 new u G

  -- and where nothing is new, it is at rest
  pub all_drained : oldest_new s.network ≡ None → AllGoes s l → AtRest s l
  all_drained e G name q L = drained c s A l name q L (G name q L) e
