-- The lines of what a sequencer did, one kind after the other.
use Rattle.std.proofs.Common.{◌≡◌, ◌⊎◌, ℕ, inl, inr, refl, sym, subst, Bool, true, false, if◌then◌else◌, List, [], ◌∷◌, Some}
use Rattle.ld_transcript.specs.declared.line.Line.{Line}
use Rattle.ld_transcript.specs.declared.line.Line.TheVariants as lines
use Rattle.ld_config.specs.declared.config.Config.{Config}
use Rattle.ld_table.specs.Table.{find}
use Rattle.ld_msg.specs.declared.msg.Body.{Body}
use Rattle.ld_msg.specs.declared.msg.Summary.{Summary}
use Rattle.ld_msg.specs.Register.{Register, View}
use Rattle.ld_msg.specs.Sequencer.{Sequencer, Append, Acts, Called, called, on_reply, on_retry, is_acked, stored_at, released_of, rose}
use Rattle.ld_machine.specs.Config.{looks_at}
use Rattle.ld_machine.specs.State.{State}
use Rattle.ld_machine.specs.World.{In}
use Rattle.ld_machine.specs.Step as Step
use Rattle.ld_safety.proofs.Lists.{In-append, only}
use Rattle.ld_safety.proofs.SequencerSteps.{Closing, Acting, Retrying, gone_of, replied, retried}

numbered_line : (f : ℕ → Line) (ns : List ℕ) (x : Line) → In x (Step.numbered_lines f ns) → (n : ℕ) × In n ns × (x ≡ f n)
numbered_line f [] x i = absurd i
numbered_line f (n ∷ ns) x (inl e) = (n, inl refl, e)
numbered_line f (n ∷ ns) x (inr i) = let z = numbered_line f ns x i in (z.0, inr z.1, z.2)

when_line : (b : Bool) (y x : Line) → In x (Step.when b y) → x ≡ y
when_line true y x i = only x y i
when_line false y x i = absurd i

-- a line of these: what preempted, a register that failed, acknowledgements, what was closed, what is released
abbrev pub ActedLine : List ℕ → Acts → Line → Type 0
ActedLine name a x = ((n : ℕ) × In n a.preempts × (x ≡ lines.RefusedPreempted name n)) ⊎ ((x ≡ lines.RefusedRegister name) ⊎ (((n : ℕ) × In n a.acked × (x ≡ lines.Acked name n))
    ⊎ (((n : ℕ) × In n a.closed × (x ≡ lines.Clean name n)) ⊎ (x ≡ lines.Released name (released_of a.sequencer)))))

pub acted_line : (name : List ℕ) (old : Sequencer) (a : Acts) (x : Line) → In x (Step.acted_lines name old a) → ActedLine name a x
acted_line name old a x i = elim (In-append x (Step.numbered_lines (lines.RefusedPreempted name) a.preempts) _ i) [
  | inl j ↦ inl (numbered_line (lines.RefusedPreempted name) a.preempts x j)
  | inr j ↦ inr (elim (In-append x (Step.when a.failed (lines.RefusedRegister name)) _ j) [
    | inl k ↦ inl (when_line a.failed _ x k)
    | inr k ↦ inr (elim (In-append x (Step.numbered_lines (lines.Acked name) a.acked) _ k) [
      | inl y ↦ inl (numbered_line (lines.Acked name) a.acked x y)
      | inr y ↦ inr (elim (In-append x (Step.numbered_lines (lines.Clean name) a.closed) _ y) [
        | inl z ↦ inl (numbered_line (lines.Clean name) a.closed x z)
        | inr z ↦ inr (when_line (rose old a.sequencer) _ x z)
      ])
    ])
  ])
]

pub acked_line : (name : List ℕ) (old : Sequencer) (a : Acts) (b : List ℕ) (n : ℕ) → In (lines.Acked b n) (Step.acted_lines name old a) → (b ≡ name) × In n a.acked
acked_line name old a b n i = elim (acted_line name old a _ i) [
  | inl z ↦ absurd (let e = z.2 in cc)
  | inr (inl z) ↦ absurd cc
  | inr (inr (inl z)) ↦ (let e : lines.Acked b n ≡ lines.Acked name z.0 = z.2 in let x : b ≡ name = cc in let y : n ≡ z.0 = cc in (x, subst (λ k. In k a.acked) (sym y) z.1))
  | inr (inr (inr (inl z))) ↦ absurd (let e = z.2 in cc)
  | inr (inr (inr (inr z))) ↦ absurd cc
]

pub released_line : (name : List ℕ) (old : Sequencer) (a : Acts) (b : List ℕ) (n : ℕ) → In (lines.Released b n) (Step.acted_lines name old a) → (b ≡ name) × (n ≡ released_of a.sequencer)
released_line name old a b n i = elim (acted_line name old a _ i) [
  | inl z ↦ absurd (let e = z.2 in cc)
  | inr (inl z) ↦ absurd cc
  | inr (inr (inl z)) ↦ absurd (let e = z.2 in cc)
  | inr (inr (inr (inl z))) ↦ absurd (let e = z.2 in cc)
  | inr (inr (inr (inr z))) ↦ (let x : b ≡ name = cc in let y : n ≡ released_of a.sequencer = cc in (x, y))
]

-- ---- a number that a call acknowledges is one of the appends that waited ----
abbrev pub AcksWaiting : Sequencer → Called → Type 0
AcksWaiting q k = (n : ℕ) → In n k.acts.acked → (p : Append) × (find n q.appends ≡ Some p)

closing_acks : (r : Register) (looks : ℕ → View) (q : Sequencer) (a : Acts) (e : ℕ) (y : Summary) (short : Bool) → a.acked ≡ [] → Closing r looks a e y short (AcksWaiting q)
closing_acks r looks q a e y short z = record {
  granted = λ n h o g m i. absurd (subst (In m) z i);
  passed = λ l m i. absurd (subst (In m) z i);
  behind = λ b l m i. absurd (subst (In m) z i);
  overtaken = λ h o m i. absurd (subst (In m) z i);
  failed = λ n g m i. absurd (subst (In m) z i);
}

acked_here : (q : Sequencer) (n : ℕ) (p x : Append) → find n q.appends ≡ Some p → (b c : Bool) (m : ℕ) → In m (if b then [] else if c then n ∷ [] else []) → (v : Append) × (find m q.appends ≡ Some v)
acked_here q n p x f true c m i = absurd i
acked_here q n p x f false true m i = (p, subst (λ k. find k q.appends ≡ Some p) (sym (only m n i)) f)
acked_here q n p x f false false m i = absurd i

module _ (c : Config) (s : State) (q : Sequencer) where
  acting : (y : ℕ) (b : Body) → Acting c s.register (gone_of s q) q y b (λ k m. AcksWaiting q k)
  acting y b = record {
    quiet = λ n i. absurd i;
    sealed = λ n k f i l m j. absurd j;
    cleaned_own = λ n s f i h m j. absurd j;
    acks = λ n p f i h g m k j. acked_here q n p (stored_at p y) g (is_acked q.spec p) (is_acked q.spec (stored_at p y)) k j;
    lost_own = λ n round g end f i h m j. absurd j;
    cleaned = λ v n s f e i h m j. absurd j;
    asks_more = λ w d asks f h a n u m j. absurd j;
    plans = λ w d loss f h p m j. absurd j;
    looks_closed = λ w d z f h u o m j. absurd j;
    looks_later = λ w d f h u o n m j. absurd j;
    stores_on = λ w g f h t m j. absurd j;
    closes_now = λ w g f h t. closing_acks s.register _ q _ w.epoch _ _ refl;
    lost_closing = λ v z b n round g end f e i h k m j. absurd j;
  }

  retrying : Retrying c s.register (gone_of s q) q (λ k m. AcksWaiting q k)
  retrying = record {
    quiet = λ m j. absurd j;
    appends = λ f m j. absurd j;
    seals = λ v d f e h u m j. absurd j;
    plans = λ v d f e h p m j. absurd j;
    looks_closed = λ v d z f e h u o m j. absurd j;
    looks_later = λ v d f e h u o n m j. absurd j;
    stores_on = λ v g f e h t m j. absurd j;
    closes_now = λ v g f e h t. closing_acks s.register _ q _ v.epoch _ _ refl;
    closes = λ v y b f e h. closing_acks s.register _ q _ v.epoch y b refl;
  }

  pub reply_acks : (name : List ℕ) (y : ℕ) (b : Body) → q.gone ≡ false → AcksWaiting q (called (looks_at c s.register q.log) s.register (on_reply (looks_at c s.register q.log) q y b) (on_reply (looks_at c s.register q.log) q y b).tries)
  reply_acks name y b g = replied c s name q g y b (λ k m. AcksWaiting q k) (acting y b)

  pub retry_acks : q.gone ≡ false → AcksWaiting q (called (looks_at c s.register q.log) s.register (on_retry (looks_at c s.register q.log) q) (on_retry (looks_at c s.register q.log) q).tries)
  retry_acks g = retried c s q g (λ k m. AcksWaiting q k) retrying
