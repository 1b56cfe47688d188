-- What a round sends of one append.
use Rattle.std.proofs.Common.{◌≡◌, ℕ, ◌+◌, ◌<◌, Bool, true, false, List, [], ◌∷◌, ◌++◌, length, ap, sym, ◌∙◌, nat_le, append-nil, append_assoc, arith, drop, slice_get, get_or, Some, ◌≤◌, inl, inr}
use Rattle.std.proofs.lemmas.List.{drop_all}
use Rattle.std.proofs.lemmas.Option.{slice_get_cases, get_or_from_slice_get}
use Rattle.ld_table.specs.Words.{without}
use Rattle.ld_ids.specs.declared.set.Spec.{Spec}
use Rattle.ld_ids.specs.Choice.{choice_at}
use Rattle.ld_copyset.specs.Copyset.{place_of}
use Rattle.ld_msg.specs.declared.msg.Msg.{Msg}
use Rattle.ld_msg.specs.declared.msg.Who.{Who}
use Rattle.ld_msg.specs.declared.msg.Body.{Body}
use Rattle.ld_sequencer.specs.Appends.{numbered_from, carried}
use Rattle.ld_table.proofs.Places.{drop_at_place}
use Rattle.ld_recovery.proofs.Posting.{posted-append}
use Rattle.ld_msg.specs.declared.msg.What.TheVariants.{Rec}
use Rattle.ld_msg.specs.declared.msg.Body.TheVariants.{Store}
use Rattle.ld_msg.specs.Network.{posted}
use Rattle.ld_msg.specs.Sequencer.{Append, to_each, is_acked, append_stores}
use Rattle.ld_appender.specs.Waiting.{Waiting, is_enough}

pub acked_is : (s : Spec) (w : Waiting) (b : Bool) → w.factor ≡ s.r → is_enough w ≡ b → is_acked s w.append ≡ b
acked_is s w b f e = ap (λ r. nat_le r (length w.append.stored)) (sym f) ∙ e

pub nothing_sent : (who : Who) (log : ℕ) (s : Spec) (lost : List ℕ) (lng : ℕ) (n : ℕ) (w : Waiting) (out : List Msg) → w.factor ≡ s.r → is_enough w ≡ true → out ≡ out ++ posted who log (append_stores s lost lng ((n, w.append) ∷ []))
nothing_sent who log s lost lng n w out f e = rw (acked_is s w true f e) (sym (append-nil out))

pub stores_sent : (who : Who) (log : ℕ) (s : Spec) (lost : List ℕ) (lng : ℕ) (n : ℕ) (w : Waiting) (old out : List Msg) (nodes left : List ℕ) → w.factor ≡ s.r → is_enough w ≡ false → nodes ≡ choice_at s lost (place_of n w.append.wave) → left ≡ without w.append.stored nodes
    → out ≡ old ++ posted who log (to_each (Store n lng (Rec w.append.payload)) left) → out ≡ old ++ posted who log (append_stores s lost lng ((n, w.append) ∷ []))
stores_sent who log s lost lng n w old out nodes left f e c l o =
    rw (acked_is s w false f e) (o ∙ ap (λ ms. old ++ posted who log ms) (ap (to_each (Store n lng (Rec w.append.payload))) (l ∙ ap (without w.append.stored) c) ∙ sym (append-nil _)))

pub ruleset round_rules = (nothing_sent, stores_sent)

-- the stores of the appends from a place on
abbrev pub stores_from : Who → ℕ → Spec → List ℕ → ℕ → ℕ → ℕ → List Waiting → List Msg
stores_from who log s lost lng first place ws = posted who log (append_stores s lost lng (numbered_from (first + place) (carried (drop place ws))))

-- one append is sent, and one fewer is left
pub round_one : (who : Who) (log : ℕ) (s : Spec) (lost : List ℕ) (lng : ℕ) (first place : ℕ) (ws : List Waiting) (w : Waiting) (sent : List Msg) → slice_get ws place ≡ Some w
    → (sent ++ posted who log (append_stores s lost lng ((first + place, w.append) ∷ []))) ++ stores_from who log s lost lng first (place + 1) ws ≡ sent ++ stores_from who log s lost lng first place ws
round_one who log s lost lng first place ws w sent e =
    let one : List (ℕ × Body) = append_stores s lost lng ((first + place, w.append) ∷ []) in
    let rest : List (ℕ × Append) = numbered_from (first + place + 1) (carried (drop (place + 1) ws)) in
    let all : append_stores s lost lng (numbered_from (first + place) (carried (drop place ws))) ≡ one ++ append_stores s lost lng rest =
    ap (λ vs. append_stores s lost lng (numbered_from (first + place) (carried vs))) (drop_at_place ws place w e) ∙ ap (λ bs. bs ++ append_stores s lost lng rest) (sym (append-nil _)) in
    let next : first + (place + 1) ≡ first + place + 1 = omega arith in
    append_assoc sent _ _ ∙ ap (λ ms. sent ++ ms) (ap (λ n. posted who log one ++ posted who log (append_stores s lost lng (numbered_from n (carried (drop (place + 1) ws))))) next ∙ (sym (posted-append who log one (append_stores s lost lng rest)) ∙ ap (posted who log) (sym all)))

pub at_index : (ws : List Waiting) (i : ℕ) (w : Waiting) → i < length ws → w ≡ get_or ws i w → slice_get ws i ≡ Some w
at_index ws i w l e = elim (slice_get_cases ws i).1 [
  | inl f ↦ f.2 ∙ ap Some (sym (e ∙ get_or_from_slice_get ws i f.0 w f.2))
  | inr f ↦ absurd (omega (arith, f.0))
]

pub none_left : (who : Who) (log : ℕ) (s : Spec) (lost : List ℕ) (lng : ℕ) (first place : ℕ) (ws : List Waiting) (out : List Msg) → length ws ≤ place → out ++ stores_from who log s lost lng first place ws ≡ out
none_left who log s lost lng first place ws out h = ap (λ vs. out ++ posted who log (append_stores s lost lng (numbered_from (first + place) (carried vs)))) (drop_all place ws h) ∙ append-nil out
