-- A sequencer that is driven, with its register.
use Rattle.std.specs.Prelude.{ℕ, ◌≡◌, ◌≤◌, ◌⊎◌, List, Option, None, Some, Bool, true, false, ◌==◌, ◌&&◌}
use Rattle.std.proofs.Common.{refl, sym, ap, inl, inr, ⊎_elim, subst, ◌∙◌, arith}
use Rattle.ld_io.specs.Causes.{Rose}
use Rattle.ld_config.specs.declared.config.Config.{Config}
use Rattle.ld_table.specs.Named.{find_named}
use Rattle.ld_msg.specs.declared.msg.Who.{Who}
use Rattle.ld_msg.specs.declared.msg.Who.TheVariants as whos
use Rattle.ld_msg.specs.Sequencer.{Sequencer}
use Rattle.ld_msg.specs.declared.msg.Msg.{Msg}
use Rattle.ld_msg.specs.Register.{Register, is_crowded}
use Rattle.ld_ids.specs.declared.set.Spec.{Spec}
use Rattle.ld_register.specs.Calls.{is_full, activation_length, close_length}
use Rattle.ld_sequencer.specs.Whole.{Whole, is_settled}
use Rattle.ld_machine.specs.Config.{first_spec, has_log}
use Rattle.ld_machine.specs.State.{State, sequencer_of}
use Rattle.ld_machine.specs.Step.{spec_set}
use Rattle.ld_clients.specs.Serving.{IsWhole, Knows}
use Rattle.ld_rounds.specs.declared.ended.Refusal.{Refusal}
use Rattle.ld_rounds.specs.declared.ended.Ended.{Ended}
use Rattle.ld_rounds.specs.declared.ended.Ended.TheVariants as ends
use Rattle.ld_rounds.specs.Refusals.{HeldNone, IsRefusal, refusal_as}

-- among these sequencers it is the one of the name, and the one of its log and epoch, and it has what the configuration says of its nodes and its log
pub record IsServing (name : List ℕ) (w : Whole) (c : Config) (qs : List (List ℕ × Sequencer)) : Type 0 where
  pub there : find_named name qs ≡ Some w.sequencer
  pub found : sequencer_of w.sequencer.log w.sequencer.epoch qs ≡ Some (name, w.sequencer)
  pub knows : Knows c w
  pub whole : IsWhole w

-- the name is free until it is active
abbrev pub MayServe : List ℕ → Option Whole → Config → List (List ℕ × Sequencer) → Type 0
MayServe name None c qs = find_named name qs ≡ None
MayServe name (Some w) c qs = IsServing name w c qs

-- a state has this sequencer, whatever others it has, and a register that is told
pub record Serves (name : List ℕ) (o : Option Whole) (tells : Register → Type 0) (c : Config) (s : State) : Type 0 where
  pub sequencer : MayServe name o c s.sequencers
  pub register : tells s.register

-- a message is for the sequencer, by the epoch and the log
abbrev pub IsTo : Option Whole → Msg → Type 0
IsTo None m = ⊥
IsTo (Some w) m = (m.to ≡ whos.Sequencer w.sequencer.epoch) × (m.log ≡ w.sequencer.spec.log)

-- ---- what it takes ----

-- it goes to the sequencer of this epoch
abbrev pub is_to : ℕ → Who → Bool
is_to epoch (whos.Sequencer e) = e == epoch
is_to epoch _ = false

-- this sequencer takes a message that goes to it, by the epoch and the log
abbrev pub takes_it : Option Sequencer → Msg → Bool
takes_it None m = false
takes_it (Some q) m = is_to q.epoch m.to && (m.log == q.log)

-- so does the sequencer of the name, as the state has it
abbrev pub takes : List ℕ → State → Msg → Bool
takes name s m = takes_it (find_named name s.sequencers) m

-- ---- what it is activated with ----

-- what the configuration says of a log of its own
pub record IsSpecOf (c : Config) (spec : Spec) : Type 0 where
  pub is : spec ≡ first_spec c spec.log
  pub there : has_log c spec.log ≡ true

-- nothing else was set for later activations of the log
abbrev pub IsUnset : Config → State → Spec → Type 0
IsUnset c s spec = spec_set c s spec.log ≡ spec

abbrev pub settled_in : Option Whole → Bool
settled_in None = false
settled_in (Some w) = is_settled w

-- ---- why the register refused ----

-- it holds something
abbrev pub HoldsSome : (Register → Type 0) → Type 0
HoldsSome holds = (c : Register) × holds c

-- what it holds leaves no room for an activation, or none for a close
abbrev pub LacksRoom : (Register → Type 0) → Type 0
LacksRoom holds = (c : Register) × holds c × ((is_full c activation_length ≡ true) ⊎ (is_full c close_length ≡ true))

-- what calls leave of how the drive ends, which is kept, and of the register, with its counts of faults before and now. Once it is kept no call is made of the register any more. Until then no call of it failed, and one that held something does so still. At the end it refused since a call failed, or without a fault: it is damaged only where it held nothing before, and where it held something it is full of what it holds
pub record HasKept (end_old end_new : Option Ended) (holds_old holds_new : Register → Type 0) (faults_old faults_new : ℕ) : Type 0 where
  pub stays : (e : Ended) → end_old ≡ Some e → (end_new ≡ Some e) × (faults_new ≡ faults_old) × ((c : Register) → holds_old c → holds_new c)
  pub refused : end_old ≡ None → (r : Refusal) → end_new ≡ Some (ends.Register r) → IsRefusal (λ place. (faults_new ≡ faults_old) × HeldNone holds_old place) ((faults_new ≡ faults_old) × (HoldsSome holds_old → LacksRoom holds_new)) faults_old faults_new r
  pub on : end_new ≡ None → (faults_new ≡ faults_old) × ((c : Register) → holds_old c → (d : Register) × holds_new d)
  pub counts : faults_old ≤ faults_new

pub kept_here : (end : Option Ended) (holds : Register → Type 0) (faults : ℕ) → HasKept end end holds holds faults faults
kept_here end holds faults = record {
  stays = λ e h. (h, refl, λ c x. x);
  refused = λ none r h. let x : None ≡ Some (ends.Register r) = sym none ∙ h in absurd cc;
  on = λ h. (refl, λ c x. (c, x));
  counts = omega arith;
}

-- an activation has refused for good, or, while nothing is kept of an end, no call of the register failed, and where it tells what it holds it held something, and does so still
pub record HasBegun (end_new : Option Ended) (told_old : Type 0) (holds_old holds_new : Register → Type 0) (faults_old faults_new : ℕ) : Type 0 where
  pub end : (end_new ≡ None) ⊎ (end_new ≡ Some ends.NoMemory)
  pub on : end_new ≡ None → (faults_new ≡ faults_old) × (told_old → ((c : Register) × holds_old c) × ((d : Register) × holds_new d))

same_end : (x y : Ended) → Some x ≡ Some y → x ≡ y
same_end x y h = cc

module _ (end_a end_b end_c : Option Ended) (holds_a holds_b holds_c : Register → Type 0) (faults_a faults_b faults_c : ℕ) (p : HasKept end_a end_b holds_a holds_b faults_a faults_b) (q : HasKept end_b end_c holds_b holds_c faults_b faults_c) where
  stays_on : (e : Ended) → end_a ≡ Some e → (end_c ≡ Some e) × (faults_c ≡ faults_a) × ((c : Register) → holds_a c → holds_c c)
  stays_on e h =
      let x = p.stays e h in
      let y = q.stays e x.0 in
      (y.0, y.1 ∙ x.1, λ c h. y.2 c (x.2 c h))

  refused_on : (o : Option Ended) → end_b ≡ o → end_a ≡ None → (r : Refusal) → end_c ≡ Some (ends.Register r) → IsRefusal (λ place. (faults_c ≡ faults_a) × HeldNone holds_a place) ((faults_c ≡ faults_a) × (HoldsSome holds_a → LacksRoom holds_c)) faults_a faults_c r
  refused_on None b a r h =
      let on = p.on b in
      refusal_as (λ place. (faults_c ≡ faults_b) × HeldNone holds_b place) (λ place. (faults_c ≡ faults_a) × HeldNone holds_a place) ((faults_c ≡ faults_b) × (HoldsSome holds_b → LacksRoom holds_c)) ((faults_c ≡ faults_a) × (HoldsSome holds_a → LacksRoom holds_c)) faults_a faults_b faults_c faults_c r (λ x. subst (λ n. Rose n faults_c) on.0 x)
      (λ place x. (x.0 ∙ on.0, λ c held. x.1 (on.1 c held).0 (on.1 c held).1)) (λ x. (x.0 ∙ on.0, λ held. x.1 (on.1 held.0 held.1))) (q.refused b r h)
  refused_on (Some e) b a r h =
      let x = q.stays e b in
      let same : e ≡ ends.Register r = same_end e (ends.Register r) (sym x.0 ∙ h) in
      refusal_as (λ place. (faults_b ≡ faults_a) × HeldNone holds_a place) (λ place. (faults_c ≡ faults_a) × HeldNone holds_a place) ((faults_b ≡ faults_a) × (HoldsSome holds_a → LacksRoom holds_b)) ((faults_c ≡ faults_a) × (HoldsSome holds_a → LacksRoom holds_c)) faults_a faults_a faults_b faults_c r (λ y. subst (λ n. Rose faults_a n) (sym x.1) y)
      (λ place y. (x.1 ∙ y.0, y.1)) (λ y. (x.1 ∙ y.0, λ held. let full = y.1 held in (full.0, x.2 full.0 full.1, full.2))) (p.refused a r (b ∙ ap (λ (z : Ended). Some z) same))

  on_on : (o : Option Ended) → end_b ≡ o → end_c ≡ None → (faults_c ≡ faults_a) × ((c : Register) → holds_a c → (d : Register) × holds_c d)
  on_on None b h =
      let x = p.on b in
      let y = q.on h in
      (y.0 ∙ x.0, λ c held. y.1 (x.1 c held).0 (x.1 c held).1)
  on_on (Some e) b h = let x : None ≡ Some e = sym h ∙ (q.stays e b).0 in absurd cc

  pub kept_on : HasKept end_a end_c holds_a holds_c faults_a faults_c
  kept_on = record {
    stays = stays_on;
    refused = refused_on end_b refl;
    on = on_on end_b refl;
    counts = (let x = p.counts in let y = q.counts in omega (arith, x, y));
  }

-- ---- a register that holds as many other logs as may be ----

-- it may hold these contents, where as many other logs are held as may be
pub record MayCrowd (may : Register → Type 0) (log : ℕ) : Type 0 where
  pub contents : Register
  pub may_be : may contents
  pub crowded : is_crowded contents log ≡ true

-- calls for a log leave the register telling, and where it may be so crowded then, it might be before
pub record Leaves (log : ℕ) (told_old told_new : Type 0) (may_old may_new : Register → Type 0) : Type 0 where
  pub told : told_old → told_new
  pub back : told_old → MayCrowd may_new log → MayCrowd may_old log

-- later calls of a sequencer of the log with its register: whether a close was refused since the register is so crowded, before and now
pub record IsLater (log : ℕ) (told_old told_new : Type 0) (may_old may_new : Register → Type 0) (shut_old shut_new : Bool) : Type 0 where
  pub leaves : Leaves log told_old told_new may_old may_new
  pub shut : shut_new ≡ true → (shut_old ≡ true) ⊎ (told_old → MayCrowd may_old log)

-- its log, as long as it is of use
abbrev pub IsOfLog : ℕ → Option Whole → Type 0
IsOfLog log None = Unit {0}
IsOfLog log (Some w) = w.sequencer.log ≡ log

-- without a sequencer nothing is called; one may be of no use any more
abbrev pub IsSince : Option Whole → Option Whole → Type 0 → Type 0 → (Register → Type 0) → (Register → Type 0) → Bool → Bool → Type 0
IsSince None now told_old told_new may_old may_new shut_old shut_new = (now ≡ None) × (shut_new ≡ shut_old) × ((log : ℕ) → Leaves log told_old told_new may_old may_new)
IsSince (Some w) now told_old told_new may_old may_new shut_old shut_new = IsOfLog w.sequencer.log now × IsLater w.sequencer.log told_old told_new may_old may_new shut_old shut_new

pub leaves_here : (log : ℕ) (told : Type 0) (may : Register → Type 0) → Leaves log told told may may
leaves_here log told may = record { told = λ t. t; back = λ t c. c }

pub leaves_on : (log : ℕ) (told_a told_b told_c : Type 0) (may_a may_b may_c : Register → Type 0) → Leaves log told_a told_b may_a may_b → Leaves log told_b told_c may_b may_c → Leaves log told_a told_c may_a may_c
leaves_on log told_a told_b told_c may_a may_b may_c p q = record { told = λ t. q.told (p.told t); back = λ t c. p.back t (q.back (p.told t) c) }

pub is_here : (o : Option Whole) (told : Type 0) (may : Register → Type 0) (shut : Bool) → IsSince o o told told may may shut shut
is_here None told may shut = (refl, refl, λ log. leaves_here log told may)
is_here (Some w) told may shut = (refl, record { leaves = leaves_here w.sequencer.log told may; shut = λ s. inl s })

later_on : (log : ℕ) (told_a told_b told_c : Type 0) (may_a may_b may_c : Register → Type 0) (shut_a shut_b shut_c : Bool) → IsLater log told_a told_b may_a may_b shut_a shut_b → IsLater log told_b told_c may_b may_c shut_b shut_c → IsLater log told_a told_c may_a may_c shut_a shut_c
later_on log told_a told_b told_c may_a may_b may_c shut_a shut_b shut_c p q = record {
  leaves = leaves_on log told_a told_b told_c may_a may_b may_c p.leaves q.leaves;
  shut = λ s. ⊎_elim (λ b. p.shut b) (λ f. inr (λ t. p.leaves.back t (f (p.leaves.told t)))) (q.shut s);
}

pub goes_on : (o p q : Option Whole) (told_a told_b told_c : Type 0) (may_a may_b may_c : Register → Type 0) (shut_a shut_b shut_c : Bool) → IsSince o p told_a told_b may_a may_b shut_a shut_b → IsSince p q told_b told_c may_b may_c shut_b shut_c
    → IsSince o q told_a told_c may_a may_c shut_a shut_c
goes_on None p q told_a told_b told_c may_a may_b may_c shut_a shut_b shut_c f g =
    let last : IsSince None q told_b told_c may_b may_c shut_b shut_c = subst (λ o. IsSince o q told_b told_c may_b may_c shut_b shut_c) f.0 g in
    (last.0, last.1 ∙ f.1, λ log. leaves_on log told_a told_b told_c may_a may_b may_c (f.2 log) (last.2 log))
goes_on (Some w) None q told_a told_b told_c may_a may_b may_c shut_a shut_b shut_c f g =
    let log : ℕ = w.sequencer.log in
    (subst (IsOfLog log) (sym g.0) tt, record { leaves = leaves_on log told_a told_b told_c may_a may_b may_c f.1.leaves (g.2 log); shut = λ s. f.1.shut (sym g.1 ∙ s) })
goes_on (Some w) (Some x) q told_a told_b told_c may_a may_b may_c shut_a shut_b shut_c f g =
    let log : ℕ = w.sequencer.log in
    let next : IsOfLog log q × IsLater log told_b told_c may_b may_c shut_b shut_c = subst (λ (n : ℕ). IsOfLog n q × IsLater n told_b told_c may_b may_c shut_b shut_c) f.0 g in
    (next.0, later_on log told_a told_b told_c may_a may_b may_c shut_a shut_b shut_c f.1 next.1)
