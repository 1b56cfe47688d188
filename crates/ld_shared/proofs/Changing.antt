-- Records that are changes of calls.
use Rattle.std.proofs.Common.{◌≡◌, ◌≤◌, ◌<◌, ◌+◌, ◌⊎◌, inl, inr, ℕ, Bool, true, List, [], ◌∷◌, ◌++◌, length, take, refl, ap, sym, ◌∙◌, subst, arith, length-append}
use Rattle.std.proofs.lemmas.Bool.{cases_eq}
use Rattle.ld_msg.specs.Register.{Register, empty_register}
use Rattle.ld_records.specs.Growth.{Grows, IsAt}
use Rattle.ld_register.specs.Changes.{Leads}
use Rattle.ld_register.specs.Histories.{Call, Passes}
use Rattle.ld_register.proofs.Leading.{leads_one}
use Rattle.ld_shared.specs.Bodies.{bodies_of, body_in}
use Rattle.ld_shared.specs.Says.{LeadTo, IsLate}
use Rattle.ld_shared.specs.Together.{AreCalls, Changes, IsChangeAt, Said, Stands}
use Rattle.ld_shared.specs.declared.shared.Unsettled.{Unsettled}
use Rattle.ld_shared.proofs.Growing.{bodies_more, take_grows}

pub no_calls : AreCalls []
no_calls n less = absurd (omega (arith, less))

-- of one list it is said of all contents
change_of : (n : ℕ) (values : List (List ℕ)) (c d : Register) → IsChangeAt n values → LeadTo n values c → LeadTo (n + 1) values d → (x : Call) × Passes c x d
change_of n values c d h leads makes =
    let first = leads_one empty_register (bodies_of (take n values)) h.before c h.leads leads in
    let second = leads_one empty_register (bodies_of (take (n + 1) values)) h.now d h.makes makes in
    (h.call, subst (λ b. Passes b h.call d) first (subst (λ b. Passes h.before h.call b) second h.passes))

led_of : (k : ℕ) (values : List (List ℕ)) (value : List ℕ) (c : Register) → k ≤ length values → LeadTo k (values ++ value ∷ []) c → LeadTo k values c
led_of k values value c less h = subst (λ l. Leads empty_register (bodies_of l) c) (take_grows k values (values ++ value ∷ []) less (record { more = value ∷ []; is = refl })) h

pub calls_more : (values : List (List ℕ)) (value : List ℕ) → AreCalls values → IsChangeAt (length values) (values ++ value ∷ []) → AreCalls (values ++ value ∷ [])
calls_more values value calls change n less c d leads makes = elim (cases_eq n (length values)) [
  | inl is ↦ change_of n (values ++ value ∷ []) c d (subst (λ k. IsChangeAt k (values ++ value ∷ [])) (sym is) change) leads makes
  | inr not ↦ (
      let l : n < length values = omega (arith, not, less, length-append values (value ∷ [])) in
      calls n l c d (led_of n values value c (omega (arith, l)) leads) (led_of (n + 1) values value d (omega (arith, l)) makes)
      )
]

pub stands_change : (values : List (List ℕ)) (s : Said) → Stands values s → s.makes ≡ true → IsChangeAt s.count values
stands_change values s st is =
    let made = subst (λ p. Changes p s.own s.count values st.before st.now) is st.changes in
    record { before = st.before; now = st.now; call = s.call; leads = st.leads; passes = st.passes; makes = made.leads }

pub late_change : (own : List ℕ) (values : List (List ℕ)) (after : Register → Register) (u : Unsettled) (x : Call) → IsLate own values after u → IsAt u.number u.value.items values → ((c : Register) → Passes c x (after c)) → IsChangeAt u.number values
late_change own values after u x late at passes = record {
  before = late.contents;
  now = after late.contents;
  call = x;
  leads = late.leads;
  passes = passes late.contents;
  makes = subst (λ l. Leads empty_register l (after late.contents))
      (sym (bodies_more u.number u.value.items values at ∙ ap (λ b. bodies_of (take u.number values) ++ b ∷ []) late.value_is.body_is)) late.makes;
}
