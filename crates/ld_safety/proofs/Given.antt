-- Each record anywhere is one that was appended, and each trim anywhere is one that was issued.
use Rattle.std.proofs.Common.{Bool, ◌≡◌, ◌∙◌, ◌⊎◌, ◌≤◌, ◌<◌, ℕ, ◌-◌, inl, inr, refl, ap, sym, subst, true, false, List, [], ◌∷◌, ◌++◌, Option, Some, None, arith}
use Rattle.ld_lsn.specs.Number.{epoch_of, esn_of, numbered, last_esn}
use Rattle.ld_msg.specs.declared.msg.What.{What}
use Rattle.ld_msg.specs.declared.msg.What.TheVariants.{Rec, Hole, Bridge, Plug, Withheld}
use Rattle.ld_msg.specs.declared.msg.Entry.{Entry}
use Rattle.ld_msg.specs.declared.msg.Summary.{Summary}
use Rattle.ld_msg.specs.Digest.{Told, best, content, record_or, no_record, is_bridge, plan, plan_end, plan_floor, digest_trim, digest_lng, Item}
use Rattle.ld_machine.specs.Facts.{Happened, OfLog, Appends, Issues, sequencer_log}
use Rattle.ld_machine.specs.State.{Done}
use Rattle.ld_machine.specs.World.{In}
use Rattle.ld_safety.proofs.Lists.{slice_get_left, or_else_some}
use Rattle.ld_safety.proofs.Steps.{told, writes_before}
use Rattle.ld_safety.proofs.Numbers.{log_grows}
use Rattle.ld_safety.proofs.Plans.{best_of, plan_items, plan_shape, top_most, trim_place_most, content_no_withheld}
use Rattle.ld_msg.specs.Register.{Register, epoch_limit}
use Rattle.ld_machine.specs.Invariant.{is_withheld}
use Rattle.ld_machine.specs.Calm.{Move}

-- a record was appended by one of the steps so far
abbrev pub AppendedBy : List Happened → ℕ → ℕ → List ℕ → Type 0
AppendedBy hs l n p = (k : ℕ) × Appends hs l n p k

-- an offset that an entry may have
pub record Place (n : ℕ) (w : What) : Type 0 where
  pub above : 0 < esn_of n
  pub below : (w ≡ Bridge → ⊥) → esn_of n < last_esn

pub record GivenEntry (hs : List Happened) (l b n : ℕ) (w : What) : Type 0 where
  pub place : Place n w
  pub appended : (p : List ℕ) → w ≡ Rec p → AppendedBy hs l n p
  pub kept : is_withheld w ≡ false

-- a trim is none, or an issued point
abbrev pub GivenTrim : List Happened → ℕ → ℕ → Type 0
GivenTrim hs l t = (t ≡ 0) ⊎ ((k p : ℕ) × (t ≡ p) × Issues hs l p k)

abbrev pub AnyEpoch : ℕ → ℕ → Type 0
AnyEpoch l e = Unit {0}

abbrev pub AnyShown : ℕ → Bool → Entry → Type 0
AnyShown l clean e = Unit {0}

abbrev pub AnyReleased : ℕ → ℕ → Type 0
AnyReleased l r = Unit {0}

-- a last known good offset lies below the last offset
abbrev pub SmallGood : ℕ → ℕ → ℕ → Type 0
SmallGood l e g = g < last_esn

abbrev pub GivenSummary : List Happened → ℕ → ℕ → Summary → Type 0
GivenSummary hs l e y = GivenTrim hs l y.trim × (e ≤ epoch_limit)

-- ---- longer runs ----
pub of_log_grows : (hs : List Happened) (old : Register) (e : Move) (d : Done) (l : ℕ) (s : List ℕ) → OfLog hs l s → OfLog (hs ++ told old e d ∷ []) l s
of_log_grows hs old e d l s h = log_grows s hs (told old e d) ∙ or_else_some (sequencer_log s hs) _ l h

pub appends_grows : (hs : List Happened) (old : Register) (e : Move) (d : Done) (l n k : ℕ) (p : List ℕ) → Appends hs l n p k → Appends (hs ++ told old e d ∷ []) l n p k
appends_grows hs old e d l n k p a = record { name = a.name; here = a.here; at = slice_get_left a.here hs _ k a.at; asked = a.asked; told = writes_before hs (told old e d ∷ []) k _ a.told; of_log = of_log_grows hs old e d l a.name a.of_log }

pub issues_grows : (hs : List Happened) (old : Register) (e : Move) (d : Done) (l t k : ℕ) → Issues hs l t k → Issues (hs ++ told old e d ∷ []) l t k
issues_grows hs old e d l t k a = record { name = a.name; told = writes_before hs (told old e d ∷ []) k _ a.told; of_log = of_log_grows hs old e d l a.name a.of_log }

pub entry_grows : (hs : List Happened) (old : Register) (e : Move) (d : Done) (l b n : ℕ) (w : What) → GivenEntry hs l b n w → GivenEntry (hs ++ told old e d ∷ []) l b n w
entry_grows hs old e d l b n w g = record { place = g.place; appended = λ p q. let a = g.appended p q in (a.0, appends_grows hs old e d l n a.0 p a.1); kept = g.kept }

pub trim_grows : (hs : List Happened) (old : Register) (e : Move) (d : Done) (l t : ℕ) → GivenTrim hs l t → GivenTrim (hs ++ told old e d ∷ []) l t
trim_grows hs old e d l t (inl h) = inl h
trim_grows hs old e d l t (inr h) = inr (h.0, h.1, h.2, issues_grows hs old e d l h.1 h.0 h.3)

-- ---- plans ----
kept_what : (w : What) → (w ≡ Withheld → ⊥) → is_withheld w ≡ false
kept_what (Rec p) h = refl
kept_what Hole h = refl
kept_what Bridge h = refl
kept_what Plug h = refl
kept_what Withheld h = absurd (h refl)

module _ (hs : List Happened) (l b e : ℕ) (d : List Told) (D : (t : Told) → In t d → (f : Entry) → In f t.entries → GivenEntry hs l f.ballot f.number f.what) (L : digest_lng d < last_esn) where
  content_given : (k : Bool) (n : ℕ) (p : List ℕ) → content k (best n d) ≡ Rec p → AppendedBy hs l n p
  content_given k n p h = by_best k (best n d) refl h where
    by_what : (k : Bool) (w : What) → record_or (no_record k) w ≡ Rec p → w ≡ Rec p
    by_what k (Rec q) g = g
    by_what true Hole g = absurd cc
    by_what true Bridge g = absurd cc
    by_what true Plug g = absurd cc
    by_what true Withheld g = absurd cc
    by_what false Hole g = absurd cc
    by_what false Bridge g = absurd cc
    by_what false Plug g = absurd cc
    by_what false Withheld g = absurd cc

    by_best : (k : Bool) (o : Option Entry) → best n d ≡ o → content k o ≡ Rec p → AppendedBy hs l n p
    by_best true None e g = absurd cc
    by_best false None e g = absurd cc
    by_best k (Some f) e g = let x = best_of n d f e in let w = by_what k f.what g in elim x.whose [
      | inl q ↦ subst (λ m. AppendedBy hs l m p) q ((D x.told x.in_digest f x.in_entries).appended p w)
      | inr q ↦ absurd (let z : Bridge ≡ Rec p = sym q.1 ∙ w in cc)
    ]

  pub end_place : plan_end e d ≤ last_esn
  unfolding plan_end plan_floor
  end_place = let t = trim_place_most e (digest_trim d) in let z = top_most (last_esn - 1) d (λ u f i j n. let g = D u i f j in let y = g.place.below (λ q. bridge_no f.what q n) in omega arith) in let l = L in omega arith where
    bridge_no : (w : What) → w ≡ Bridge → is_bridge w ≡ false → ⊥
    bridge_no w q n = let z : is_bridge w ≡ true = ap is_bridge q in cc

  pub plan_epoch : (k : Bool) (i : Item) → In i (plan e k d).items → epoch_of i.number ≡ e
  plan_epoch k i h = let p = plan_items e k d i h in let u = end_place in let z = p.below in let n = p.number in omega arith

  pub plan_given : (k : Bool) (i : Item) → In i (plan e k d).items → GivenEntry hs l b i.number i.what
  plan_given k i h = let p = plan_items e k d i h in let s = plan_shape e k d p.place i.what p.item in let u = end_place in let a = p.above in let z = p.below in let n = p.number in record {
    place = record {
      above = subst (λ m. 0 < esn_of m) (sym n) (omega arith);
      below = λ q. elim s.kind [
        | inl k ↦ (let y = k.0 in subst (λ m. esn_of m < last_esn) (sym n) (omega arith))
        | inr k ↦ absurd (q k.1)
      ];
    };
    appended = λ x q. elim s.kind [
      | inl j ↦ subst (λ m. AppendedBy hs l m x) (sym n) (content_given k (numbered e p.place) x (sym j.1 ∙ q))
      | inr k ↦ absurd (let y : Bridge ≡ Rec x = sym k.1 ∙ q in cc)
    ];
    kept = elim s.kind [ inl j ↦ kept_what i.what (λ q. content_no_withheld k (best (numbered e p.place) d) (sym j.1 ∙ q)) | inr j ↦ ap is_withheld j.1 ];
  }
