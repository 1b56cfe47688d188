-- Turns by the calls of the link.
use Rattle.std.proofs.Common.{◌≡◌, ◌⊎◌, ◌+◌, ◌<◌, ◌++◌, ℕ, List, [], ◌∷◌, Bool, true, false, Option, None, Some, Ok, Err, OnOk, refl, sym, ap, ◌∙◌, subst, inl, inr}
use Rattle.std.specs.Prelude.{IfSome, MatchResult}
use Rattle.std.specs.declared.result.Result.{Result}
use Rattle.ld_msg.specs.declared.msg.Msg.{Msg}
use Rattle.ld_msg.specs.Register.{Register as Contents}
use Rattle.ld_past.specs.Events.{Event}
use Rattle.ld_op.specs.Plain.{Plain}
use Rattle.ld_store.specs.Ops.{StandsFor, IfStands}
use Rattle.ld_node.specs.Known.{Known}
use Rattle.ld_node.specs.Msgs.{released_after}
use Rattle.ld_node.specs.ByIndex.{DoesByIndex}
use Rattle.ld_serve.specs.declared.stop.Stop.{Stop}
use Rattle.ld_serve.specs.Opening.{IsOpening}
use Rattle.ld_serve.specs.Serving.{State, after, answers}
use Rattle.ld_serve.specs.Stops.{IsLinkStop}
use Rattle.ld_serve.specs.Talking.{Given}
use Rattle.ld_serve.specs.Told.{Serves, Halt, Between, Stops, Memory, AreSteps, IsIndexStep, AreIndexSteps, IsCutAt, IsTold, IsToldUntil, TellsTurn, TellsMeeting, held_of}
use Rattle.ld_serve.specs.Whole.{at_first, TookOn, TookUntilOn, HasTold, HasToldUntil}

module _ {S : Type 0} (after : S → Msg → S) (answers : S → Msg → List Msg) where
  pub steps_more : (s : S) (ts : List Given) (now : S) (m : Msg) (a : List Msg) → AreSteps after answers s ts now → a ≡ answers now m → AreSteps after answers s (ts ++ (m, a) ∷ []) (after now m)
  steps_more s [] now m a x e = (e ∙ ap (λ (t : S). answers t m) x, ap (λ (t : S). after t m) x)
  steps_more s (t ∷ ts) now m a x e = (x.0, steps_more (after s t.0) ts now m a x.1 e)

pub index_more : (id : ℕ) (known : Known) (before : Memory) (ts : List Given) (now : Memory) (t : Given) (next : Memory) → AreIndexSteps id known before ts now → IsIndexStep id known now t next → AreIndexSteps id known before (ts ++ t ∷ []) next
index_more id known before [] now t next same step = (next, subst (λ (x : Memory). IsIndexStep id known x t next) same step, refl)
index_more id known before (u ∷ ts) now t next steps step = (steps.0, steps.1, index_more id known steps.0 ts now t next steps.2 step)

-- a message that was handled, and given these answers
pub index_step : (id : ℕ) (known : Known) (before now : Memory) (m : Msg) (replies given : List Msg) → given ≡ replies → DoesByIndex id known before.released m replies before.layout now.layout → now.released ≡ released_after id known before.released m
    → IsIndexStep id known before (m, given) now
index_step id known before now m replies given same done released = record { done = subst (λ (a : List Msg). DoesByIndex id known before.released m a before.layout now.layout) (sym same) done; released = released }

-- the turns so far
pub record SoTold (id : ℕ) (known : Known) (Held : Type 0) (old did : List Event) (held : Option (List ℕ)) (first s : State) (before now : Memory) (turns : ℕ) : Type 0 where
  pub taken : List Given
  pub calls : Serves old taken did held turns
  pub by_index : AreIndexSteps id known before taken now
  pub steps : Held → AreSteps (after id known) (answers id known) first taken s

pub none_told : (id : ℕ) (known : Known) (Held : Type 0) (did : List Event) (s : State) (memory : Memory) → SoTold id known Held did did None s s memory memory 0
none_told id known Held did s memory = record { taken = []; calls = Serves.begins; by_index = refl; steps = λ _. refl }

-- a turn of the same node
pub turn_of : (i id : ℕ) (k known : Known) (Held : Type 0) (left : List ℕ → Type 0) (did new : List Event) (held rest : List ℕ) (s next : State) (before now : Memory) (r : Result Bool Stop) → i ≡ id → k ≡ known
    → TellsTurn i k Held left did new held rest s next before now r → TellsTurn id known Held left did new held rest s next before now r
turn_of i id k known Held left did new held rest s next before now r same alike t =
    subst (λ (n : ℕ). TellsTurn n known Held left did new held rest s next before now r) same (subst (λ (c : Known). TellsTurn i c Held left did new held rest s next before now r) alike t)

module _ (id : ℕ) (known : Known) (Held Now : Type 0) (still : Held → Now) (left : List ℕ → Type 0) (old did new : List Event) (held rest : List ℕ) (first s next : State) (begun before now : Memory) (turns : ℕ) where
  pub turn_told : (there : Bool) → SoTold id known Held old did (Some held) first s begun before turns → TellsTurn id known Now left did new held rest s next before now (Ok there)
      → SoTold id known Held old new (held_of there rest) first next begun now (turns + 1)
  turn_told true so t = record {
    taken = so.taken ++ (t.message, t.given) ∷ [];
    calls = Serves.takes so.taken did t.mid new held rest t.message t.given turns so.calls t.reads t.is t.writes t.are;
    by_index = index_more id known begun so.taken before (t.message, t.given) now so.by_index t.by_index;
    steps = λ was.
        let step = t.step (still was) in
        subst (λ (x : State). AreSteps (after id known) (answers id known) first (so.taken ++ (t.message, t.given) ∷ []) x) (sym step.1)
        (steps_more (after id known) (answers id known) first so.taken s t.message t.given (so.steps was) step.0);
  }
  turn_told false so t = record {
    taken = so.taken;
    calls = Serves.ends so.taken did new held t.rest turns so.calls t.reads;
    by_index = subst (λ (x : Memory). AreIndexSteps id known begun so.taken x) (sym t.stays) so.by_index;
    steps = λ was. subst (λ (x : State). AreSteps (after id known) (answers id known) first so.taken x) (sym (t.same (still was))) (so.steps was);
  }

  pub turn_stopped : (limit : ℕ) (stop : Stop) → turns < limit → SoTold id known Held old did (Some held) first s begun before turns → TellsTurn id known Now left did new held rest s next before now (Err stop)
      → IsToldUntil id known Held left old new first next begun now limit stop
  turn_stopped limit stop few so t = record {
    taken = so.taken;
    halt = t.halt;
    ends = record { did = did; held = Some held; count = turns; calls = so.calls; few = few; last = t.last };
    by_index = (before, so.by_index, t.by_index);
    exact = λ was. (let e = t.exact (still was) in (s, so.steps was, e.0, e.1));
  }

module _ (id : ℕ) (known : Known) (Held : Type 0) (old new : List Event) (first s : State) (before now : Memory) (turns : ℕ) (taken : List Given) (by_index : AreIndexSteps id known before taken now) (steps : Held → AreSteps (after id known) (answers id known) first taken s) where
  -- the next peer is there
  pub met_told : (held : List ℕ) → TellsMeeting old taken turns new held (Ok true) → SoTold id known Held old new (Some held) first s before now turns
  met_told held met = record { taken = taken; calls = met; by_index = by_index; steps = steps }

  -- there is none
  pub none_left_told : (held : List ℕ) (limit : ℕ) → turns < limit → TellsMeeting old taken turns new held (Ok false) → IsTold id known Held old new first s before now limit
  none_left_told held limit few met = record { taken = taken; ends = inr (record { did = met.0; count = turns; calls = met.1; few = few; none = met.2 }); by_index = by_index; steps = steps }

  -- the link failed
  pub between_told : (left : List ℕ → Type 0) (held : List ℕ) (limit : ℕ) (stop : Stop) → turns < limit → TellsMeeting old taken turns new held (Err stop) → IsLinkStop stop
      → (Held → (bytes : List ℕ) → left bytes → StandsFor s.plain bytes) → IsToldUntil id known Held left old new first s before now limit stop
  between_told left held limit stop few met cause stands = record {
    taken = taken;
    halt = Between;
    ends = record { did = new; held = None; count = turns; calls = met; few = few; last = Stops.between cause };
    by_index = (now, by_index, refl);
    exact = λ was. (s, steps was, record { its = tt; cut = (cause, stands was) }, inr refl);
  }

  -- all turns were taken
  pub all_told : (held : Option (List ℕ)) (limit : ℕ) → turns ≡ limit → Serves old taken new held turns → IsTold id known Held old new first s before now limit
  all_told held limit all calls = record { taken = taken; ends = inl (record { held = held; calls = subst (λ (n : ℕ). Serves old taken new held n) all calls }); by_index = by_index; steps = steps }

-- ---- the whole ----

module _ (left : List ℕ → Type 0) (holds holds_now : Contents → Type 0) (id : ℕ) (known : Known) (format : Bool) where
  took_on : (seen : Option (List ℕ)) (taken : List Given) (first : Plain) (last : State) (Was : Type 0) → IfSome seen (IfStands (IsOpening holds holds_now id format first)) → IfSome seen (IfStands (λ _. Was))
      → (Was → AreSteps (after id known) (answers id known) (at_first first) taken last) → (Was → (bytes : List ℕ) → left bytes → StandsFor last.plain bytes)
      → IfSome seen (IfStands (λ bytes. TookOn bytes left holds holds_now id known format taken))
  took_on None taken first last Was opened was steps stands = tt
  took_on (Some bytes) taken first last Was opened was steps stands = λ p is. record { first = first; opened = opened p is; last = last; steps = steps (was p is); stands = stands (was p is) }

  took_until_on : (seen : Option (List ℕ)) (taken : List Given) (halt : Halt) (stop : Stop) (first : Plain) (Was : Type 0) (At : State → Type 0) → IfSome seen (IfStands (IsOpening holds holds_now id format first))
      → IfSome seen (IfStands (λ _. Was)) → (Was → (last : State) × AreSteps (after id known) (answers id known) (at_first first) taken last × IsCutAt id known left stop last halt × At last)
      → IfSome seen (IfStands (λ bytes. TookUntilOn bytes left holds holds_now id known format taken halt stop))
  took_until_on None taken halt stop first Was At opened was exact = tt
  took_until_on (Some bytes) taken halt stop first Was At opened was exact =
      λ p is. record { first = first; opened = opened p is; last = (exact (was p is)).0; steps = (exact (was p is)).1; cut = (exact (was p is)).2 }

  pub has_told : (seen : Option (List ℕ)) (r : Result Unit Stop) (old new : List Event) (turns : ℕ) (first : Plain) (last : State) (before now : Memory) (Was : Type 0) (Other : Stop → Type 0) → before.released ≡ []
      → IfSome seen (IfStands (IsOpening holds holds_now id format first)) → IfSome seen (IfStands (λ _. Was))
      → MatchResult r (λ _. IsTold id known Was old new (at_first first) last before now turns) (IsToldUntil id known Was left old new (at_first first) last before now turns)
      → (Was → OnOk r ((bytes : List ℕ) → left bytes → StandsFor last.plain bytes))
      → MatchResult r (λ _. HasTold seen left holds holds_now id known format old new turns) (λ stop. Other stop ⊎ HasToldUntil seen left holds holds_now id known format old new turns stop)
  has_told seen (Ok x) old new turns first last before now Was Other nothing opened was told stands =
      record { taken = told.taken; ends = told.ends; by_index = record { first = before; opened = nothing; last = now; steps = told.by_index }; exact = took_on seen told.taken first last Was opened was told.steps stands }
  has_told seen (Err stop) old new turns first last before now Was Other nothing opened was told stands =
      inr (record {
        taken = told.taken;
        halt = told.halt;
        ends = told.ends;
        by_index = record { first = before; opened = nothing; last = told.by_index.0; steps = told.by_index.1; now = now; halts = told.by_index.2 };
        exact = took_until_on seen told.taken told.halt stop first Was _ opened was told.exact;
      })
