-- Recoveries agree, in every state of every run.
use Rattle.std.proofs.Common.{◌≡◌, ◌∙◌, ◌≤◌, ◌<◌, ℕ, inl, inr, refl, ap, sym, subst, true, false, ◌&&◌, ◌==◌, List, [], ◌∷◌, Option, Some, None, arith}
use Rattle.std.proofs.lemmas.Bool.{cases_Bool, and_parts, eqb-true, eqb-false, leb-true}
use Rattle.ld_lsn.specs.Number.{epoch_of, esn_of, numbered, last_esn}
use Rattle.ld_config.specs.declared.config.Config.{Config}
use Rattle.ld_msg.specs.declared.msg.What.{What}
use Rattle.ld_msg.specs.declared.msg.What.TheVariants.{Rec, Bridge, Plug}
use Rattle.ld_msg.specs.declared.msg.Who.{Who}
use Rattle.ld_msg.specs.declared.msg.Who.TheVariants as whos
use Rattle.ld_msg.specs.declared.msg.Msg.{Msg}
use Rattle.ld_msg.specs.declared.msg.Body.{Body}
use Rattle.ld_msg.specs.declared.msg.Body.TheVariants as bodies
use Rattle.ld_msg.specs.Register.{Register}
use Rattle.ld_msg.specs.Digest.{Told, best, content, plan_item, plan_end, plan_floor}
use Rattle.ld_op.specs.Handles.{ballot_of}
use Rattle.ld_machine.specs.Config.{fixed_of}
use Rattle.ld_machine.specs.Facts.{Happened}
use Rattle.ld_machine.specs.World.{World, Made, In, begin, chosen, item, item_in, append_in, HasPlan, plan_in, plan_from, is_made, what_sent, stored_what, stores_at, is_sequencer}
use Rattle.ld_machine.specs.Invariant.{Agrees, IsFound, LossesWereGone, LossesLast, LossesSay}
use Rattle.ld_machine.specs.Run.{Move, world_after, trace}
use Rattle.ld_safety.proofs.Lists.{Some_inj, not_both, not_none, branch}
use Rattle.ld_safety.proofs.Traces.{later}
use Rattle.ld_safety.proofs.Numbers.{one_payload}
use Rattle.ld_safety.proofs.Base.{Base}
use Rattle.ld_safety.proofs.GivenSteps.{BaseGiven}
use Rattle.ld_safety.proofs.Plans.{plan_shape, plan_between, floor_below, floor_cases}
use Rattle.ld_safety.proofs.Protocol.{Basis, plan_of, Says, Chosen, AppendsOnce, sequencer_who}
use Rattle.ld_safety.proofs.Said.{Reached, Said, SaidHere}
use Rattle.ld_safety.proofs.Settled.{TrimFine, CloseFine, ShowFine, ReleaseFine, LngFine}
use Rattle.ld_safety.proofs.Agreement.{agrees}
use Rattle.ld_safety.proofs.Plannings.{plan_facts, ends_in}
use Rattle.ld_safety.proofs.LossPlans.{plan_says}
use Rattle.ld_safety.proofs.Losses.{found_no_plug}
use Rattle.ld_safety.proofs.Along.{Along}
use Rattle.ld_safety.proofs.AlongSteps.{along_kept}
use Rattle.ld_safety.proofs.Carried as carried

-- ---- reading the book and the messages ----
-- what a plan in the book was made from
abbrev pub basis_of : Made → Basis
basis_of m = record { loss = m.loss; digest = m.digest; gone = m.gone }

pub found_plan : (l e b : ℕ) (ms : List Made) (d : Made) → plan_in l e b ms ≡ Some d → In (plan_of l e b (basis_of d)) ms
found_plan l e b [] d h = absurd (not_none h)
found_plan l e b (m ∷ ms) d h = elim (branch (is_made l e b m) (Some m) (plan_in l e b ms) (Some d) h) [
  | inl a ↦ (let p = and_parts ((m.log == l) && (m.epoch == e)) (m.ballot == b) a.0 in let q = and_parts (m.log == l) (m.epoch == e) p.0 in let o = Some_inj a.1 in
      inl (λ i. record { log = sym (eqb-true _ _ q.0) i; epoch = sym (eqb-true _ _ q.1) i; ballot = sym (eqb-true _ _ p.1) i; loss = (sym o i).loss; digest = (sym o i).digest; gone = (sym o i).gone }))
  | inr a ↦ inr (found_plan l e b ms d a.1)
]

-- a store of the epoch's own sequencer
record StoreOf (l n : ℕ) (x : What) (ms : List Msg) : Type 0 where
  message : Msg
  there : In message ms
  log : message.log ≡ l
  from : message.from ≡ whos.Sequencer (epoch_of n)
  lng : ℕ
  body : message.body ≡ bodies.Store n lng x

store_body : (n : ℕ) (x : What) (b : Body) → stores_at n b ≡ true → stored_what b ≡ Some x → (lng : ℕ) × (b ≡ bodies.Store n lng x)
store_body n x (bodies.Store s lng w) h g = (lng, λ i. bodies.Store (eqb-true s n h i) lng (Some_inj g i))
store_body n x _ h g = absurd cc

found_store : (l n : ℕ) (ms : List Msg) (x : What) → append_in l n ms ≡ Some x → StoreOf l n x ms
found_store l n [] x h = absurd (not_none h)
found_store l n (m ∷ ms) x h = elim (branch (what_sent l (epoch_of n) n m) (stored_what m.body) (append_in l n ms) (Some x) h) [
  | inl a ↦ (let p = and_parts (m.log == l) (is_sequencer (epoch_of n) m.from && stores_at n m.body) a.0 in let q = and_parts (is_sequencer (epoch_of n) m.from) (stores_at n m.body) p.1 in let s = store_body n x m.body q.1 a.1 in
      record { message = m; there = inl refl; log = eqb-true _ _ p.0; from = sequencer_who (epoch_of n) m.from q.0; lng = s.0; body = s.1 })
  | inr a ↦ let r = found_store l n ms x a.1 in record { message = r.message; there = inr r.there; log = r.log; from = r.from; lng = r.lng; body = r.body }
]

module _ (c : Config) (hs : List Happened) (w : World) (B : Base c hs w) (R : Along c hs w) where
  reg : Register
  reg = w.state.register

  once : AppendsOnce hs
  once l n p q a b = one_payload hs w.state.sequencers w.state.register B.0.1 l n a.0 b.0 p q a.1 b.1

  pub store_said : (l n : ℕ) (x : What) → append_in l n w.state.network.sent ≡ Some x → Said hs w.made w.state.register l (epoch_of n) n x
  store_said l n x h = let s = found_store l n w.state.network.sent x h in
      let z : carried.BodyOk (Said hs w.made w.state.register) (TrimFine c hs w.state.network.sent w.state.register) (CloseFine c hs w.made w.state.network.sent w.state.register) (Reached w.state.register) (ShowFine c hs w.made w.state.network.sent w.state.register) (ReleaseFine c hs w.state.network.sent w.state.register) (SaidHere hs w.made w.state.register) (LngFine c hs w.state.network.sent w.state.register) s.message.log s.message.from (bodies.Store n s.lng x) = subst (carried.BodyOk (Said hs w.made w.state.register) (TrimFine c hs w.state.network.sent w.state.register) (CloseFine c hs w.made w.state.network.sent w.state.register) (Reached w.state.register) (ShowFine c hs w.made w.state.network.sent w.state.register) (ReleaseFine c hs w.state.network.sent w.state.register) (SaidHere hs w.made w.state.register) (LngFine c hs w.state.network.sent w.state.register) s.message.log s.message.from) s.body (R.said.sent s.message s.there).0 in
      subst (λ k. Said hs w.made w.state.register k (epoch_of n) n x) s.log (subst (λ (k : Who). Said hs w.made w.state.register s.message.log (ballot_of k) n x) s.from z.0)

  -- a plan ends in its epoch
  end_here : (l e b : ℕ) (d : Basis) → In (plan_of l e b d) w.made → plan_end e d.digest ≤ last_esn
  end_here l e b d i = ends_in c hs w.state.network.sent w.made w.state.register l e b d (R.plans l e b d i)

  record Told_here (l n b : ℕ) (x : What) : Type 0 where
    says : Says hs w.made l b n x
    below : esn_of n < last_esn

  by_plan : (l n b : ℕ) (x : What) → (x ≡ Bridge → ⊥) → (o : Option Made) → plan_in l (epoch_of n) b w.made ≡ o → item_in (epoch_of n) (esn_of n) o ≡ Some x → Told_here l n b x
  by_plan l n b x nb None q h = absurd (not_none h)
  by_plan l n b x nb (Some d) q h =
      let i = found_plan l (epoch_of n) b w.made d q in
      let p = R.plans l (epoch_of n) b (basis_of d) i in
      let s = plan_shape (epoch_of n) d.loss d.digest (esn_of n) x h in
      let en = end_here l (epoch_of n) b (basis_of d) i in
      record {
        says = inr (record { later = p.later; basis = basis_of d; planned = i; item = h });
        below = elim s.kind [ inl k ↦ (let y = k.0 in omega arith) | inr k ↦ absurd (nb k.1) ];
      }

  told_here : (l n b : ℕ) (x : What) → (x ≡ Bridge → ⊥) → item w l n b ≡ Some x → Told_here l n b x
  unfolding item
  told_here l n b x nb h = elim (branch (b == epoch_of n) (append_in l n w.state.network.sent) (item_in (epoch_of n) (esn_of n) (plan_in l (epoch_of n) b w.made)) (Some x) h) [
    | inl a ↦ (let s = store_said l n x a.1 in subst (λ k. Told_here l n k x) (sym (eqb-true _ _ a.0)) (record { says = s.says; below = s.given.place.below nb }))
    | inr a ↦ by_plan l n b x nb (plan_in l (epoch_of n) b w.made) refl a.1
  ]

  -- what was found is no plug
  no_plug : (l n b : ℕ) (x : What) → item w l n b ≡ Some x → IsFound w l (epoch_of n) b → x ≡ Plug → ⊥
  unfolding item
  no_plug l n b x h f q = elim (branch (b == epoch_of n) (append_in l n w.state.network.sent) (item_in (epoch_of n) (esn_of n) (plan_in l (epoch_of n) b w.made)) (Some x) h) [
    | inl a ↦ elim (store_said l n x a.1).says [ inl o ↦ (let z : Plug ≡ Rec o.payload = sym q ∙ o.is in cc) | inr o ↦ (let z = o.later in omega arith) ]
    | inr a ↦ in_plan (plan_in l (epoch_of n) b w.made) refl a.1 (found_so (eqb-false b (epoch_of n) a.0) f)
  ] where
    found_so : (b ≡ epoch_of n → ⊥) → IsFound w l (epoch_of n) b → (m : Made) → HasPlan w l (epoch_of n) b m → m.loss ≡ false
    found_so ne (inl e) m h = absurd (ne e)
    found_so ne (inr k) m h = ap (λ (v : Made). v.loss) (Some_inj (sym h ∙ k.1)) ∙ k.2

    in_plan : (o : Option Made) → plan_in l (epoch_of n) b w.made ≡ o → item_in (epoch_of n) (esn_of n) o ≡ Some x → ((m : Made) → HasPlan w l (epoch_of n) b m → m.loss ≡ false) → ⊥
    in_plan None g k fs = not_none k
    in_plan (Some m) g k fs = let s = plan_shape (epoch_of n) m.loss m.digest (esn_of n) x k in elim s.kind [
      | inl u ↦ found_no_plug (best (numbered (epoch_of n) (esn_of n)) m.digest) (ap (λ v. content v (best (numbered (epoch_of n) (esn_of n)) m.digest)) (sym (fs m g)) ∙ (sym u.1 ∙ q))
      | inr u ↦ (let z : Plug ≡ Bridge = sym q ∙ u.1 in cc)
    ]

  chosen_here : (l n b : ℕ) → chosen c w l n b ≡ true → Chosen (fixed_of c w.state.register l (epoch_of n)) w.state.network.sent l n b
  unfolding chosen
  chosen_here l n b h = leb-true _ _ h

  pub agree_here : Agrees c w
  agree_here l n b g x d ch it nb fd lt pl lo =
      let t = told_here l n b x nb it in
      let i = found_plan l (epoch_of n) g w.made d pl in
      elim (agrees hs w.made w.state.network.sent (fixed_of c w.state.register l) once R.once l (λ e. Unit {0}) (λ e a g d f i j lt lo. R.last l e a g d f i j lt lo) (λ e a f u j lo. plan_facts c hs w.state.network.sent w.made w.state.register l e a f (R.plans l e a f j) lo)
      n b g x (basis_of d) tt t.below lt i lo (chosen_here l n b ch) t.says nb (no_plug l n b x it fd)) [
        | inl z ↦ inl (plan_says w l n g d x (R.plans l (epoch_of n) g (basis_of d) i).later pl z)
        | inr z ↦ inr (floor_cases (epoch_of n) d.digest (esn_of n) z)
      ]

  -- ---- loss plans ----
  pub losses_gone_here : LossesWereGone c w
  losses_gone_here l e b m h lo = (R.losses l e b (basis_of m) (found_plan l e b w.made m h) lo).gone

  pub losses_last_here : LossesLast w
  losses_last_here l e b g d f h k lo lt = elim (cases_Bool f.loss) [
    | inl t ↦ t
    | inr t ↦ absurd (not_both d.loss lo (R.last l e b g (basis_of d) (basis_of f) (found_plan l e b w.made d h) (found_plan l e g w.made f k) lt t))
  ]

  floor_above : (e : ℕ) (d : List Told) (k : ℕ) → plan_from e d < k → plan_floor e d < k
  floor_above e d k h = floor_below e d k (omega arith) (omega arith)

  pub losses_say_here : LossesSay w
  losses_say_here l e b k m h lo lt ab be =
      let i = found_plan l e b w.made m h in
      let en = end_here l e b (basis_of m) i in
      let ep : epoch_of (numbered e k) ≡ e = omega arith in
      let es : esn_of (numbered e k) ≡ k = omega arith in
      let it : plan_item e m.loss m.digest k ≡ Some (content true (best (numbered e k) m.digest)) = plan_between e m.loss m.digest k (floor_above e m.digest k ab) be ∙ ap (λ v. Some (content v (best (numbered e k) m.digest))) lo in
      plan_says w l (numbered e k) b m _ (omega arith) (subst (λ v. HasPlan w l v b m) (sym ep) h) (subst (λ v. plan_item v m.loss m.digest (esn_of (numbered e k)) ≡ Some (content true (best (numbered e k) m.digest))) (sym ep) (subst (λ v. plan_item e m.loss m.digest v ≡ Some (content true (best (numbered e k) m.digest))) (sym es) it))

pub recoveries_agree : (c : Config) (es : List Move) → Agrees c (world_after c (begin c) es)
recoveries_agree c es = let p = later c (λ hs w. BaseGiven c hs w × Along c hs w) (along_kept c) [] (begin c) es (along_kept c).begins in agree_here c (trace c (begin c) es) (world_after c (begin c) es) p.0.0 p.1

pub losses_were_gone : (c : Config) (es : List Move) → LossesWereGone c (world_after c (begin c) es)
losses_were_gone c es = let p = later c (λ hs w. BaseGiven c hs w × Along c hs w) (along_kept c) [] (begin c) es (along_kept c).begins in losses_gone_here c (trace c (begin c) es) (world_after c (begin c) es) p.0.0 p.1

pub losses_are_last : (c : Config) (es : List Move) → LossesLast (world_after c (begin c) es)
losses_are_last c es = let p = later c (λ hs w. BaseGiven c hs w × Along c hs w) (along_kept c) [] (begin c) es (along_kept c).begins in losses_last_here c (trace c (begin c) es) (world_after c (begin c) es) p.0.0 p.1

pub losses_say_so : (c : Config) (es : List Move) → LossesSay (world_after c (begin c) es)
losses_say_so c es = let p = later c (λ hs w. BaseGiven c hs w × Along c hs w) (along_kept c) [] (begin c) es (along_kept c).begins in losses_say_here c (trace c (begin c) es) (world_after c (begin c) es) p.0.0 p.1
