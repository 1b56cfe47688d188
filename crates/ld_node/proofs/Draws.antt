-- When a format is refused with the end of the generations, or with the register's full journal.
use Rattle.std.proofs.Common.{◌≡◌, ◌⊎◌, ◌≤◌, ◌+◌, ◌-◌, ◌^◌, ◌||◌, inl, inr, ℕ, Bool, true, false, Result, Ok, Err, refl, sym, ap, ◌∙◌, if◌then◌else◌}
use Rattle.std.specs.Prelude.{nat_le, nat_lt}
use Rattle.std.specs.Result.{IsErr, IsErrAnd}
use Rattle.std.proofs.lemmas.Bool.{leb-true}
use Rattle.ld_table.specs.Table.{put}
use Rattle.ld_msg.specs.Register.{Register, Changed, Answer, Granted, AtLimit, Behind, Overtaken, Fails, generation_of, generation_limit, journal_limit, record_length, falls, change, draw}
use Rattle.ld_register.specs.Calls.{drawn, after_draw, handed, ended, is_full, draw_length, IsFree}
use Rattle.ld_register.specs.declared.register.Drawn.{Drawn}
use Rattle.ld_register.specs.declared.fault.RegisterFault.{RegisterFault}
use Rattle.ld_register.specs.declared.fault.RegisterFault.TheVariants as faults
use Rattle.ld_node.specs.declared.fault.NodeFault.{NodeFault}
use Rattle.ld_node.specs.declared.fault.NodeFault.TheVariants as nodes
use Rattle.ld_node.specs.Faults.{of_register}
use Rattle.ld_node.specs.Draws.{not_drawn}

at_limit : (a : Answer) (full : Bool) (x : Drawn) → not_drawn faults.GenLimit ≡ ended a full faults.GenLimit x → a ≡ AtLimit
at_limit Granted full x is = absurd (cc is)
at_limit AtLimit full x is = refl
at_limit (Behind lce) full x is = absurd (cc is)
at_limit (Overtaken kept) full x is = absurd (cc is)
at_limit Fails true x is = absurd (cc is)
at_limit Fails false x is = absurd (cc is)

is_past : (a : Answer) (full : Bool) (x : Drawn) → not_drawn faults.Full ≡ ended a full faults.GenLimit x → full ≡ true
is_past Granted full x is = absurd (cc is)
is_past AtLimit full x is = absurd (cc is)
is_past (Behind lce) full x is = absurd (cc is)
is_past (Overtaken kept) full x is = absurd (cc is)
is_past Fails true x is = refl
is_past Fails false x is = absurd (cc is)

changes_or_fails : (b : Bool) → (if b then Fails else Granted) ≡ AtLimit → ⊥
changes_or_fails true is = absurd (cc is)
changes_or_fails false is = absurd (cc is)

pub changed_or_failed : (r next : Register) (body : ℕ) → (change r next body).answer ≡ AtLimit → ⊥
unfolding change
changed_or_failed r next body is = changes_or_fails (nat_lt journal_limit (r.length + record_length body) || falls r.armed) is

abbrev ends : (r : Register) (n : ℕ) → Bool → Changed
ends r n true = record { register = r; answer = AtLimit }
ends r n false = change r (record r { generations = put n (generation_of r n + 1) r.generations }) 6

draw_ends : (r : Register) (n : ℕ) (b : Bool) → nat_le generation_limit (generation_of r n) ≡ b → draw r n ≡ ends r n b
unfolding draw
draw_ends r n true is = ap (λ b. if b then record { register = r; answer = AtLimit } else change r (record r { generations = put n (generation_of r n + 1) r.generations }) 6) is
draw_ends r n false is = ap (λ b. if b then record { register = r; answer = AtLimit } else change r (record r { generations = put n (generation_of r n + 1) r.generations }) 6) is

ends_at_limit : (r : Register) (n : ℕ) (b : Bool) → (ends r n b).answer ≡ AtLimit → b ≡ true
ends_at_limit r n true is = refl
ends_at_limit r n false is = absurd (changed_or_failed r (record r { generations = put n (generation_of r n + 1) r.generations }) 6 is)

no_generation : (c : Register) (n : ℕ) → not_drawn faults.GenLimit ≡ drawn c n → generation_limit ≤ generation_of c n
no_generation c n is =
    let at = at_limit (draw c n).answer (is_full c draw_length) (handed c n) is in
    let b = nat_le generation_limit (generation_of c n) in
    leb-true generation_limit (generation_of c n) (ends_at_limit c n b (sym (ap (λ d. d.answer) (draw_ends c n b refl)) ∙ at))

no_room : (c : Register) (n : ℕ) → not_drawn faults.Full ≡ drawn c n → is_full c draw_length ≡ true
no_room c n is = is_past (draw c n).answer (is_full c draw_length) (handed c n) is

-- ---- what a refused format tells of the register ----

abbrev pub refused : {T : Type 0} → NodeFault → Result T NodeFault
refused fault = Err fault

pub error_is : {T : Type 0} (e f : NodeFault) → refused {T = T} e ≡ refused {T = T} f → e ≡ f
error_is e f is = cc is

fault_is : (a b : RegisterFault) → nodes.Register a ≡ nodes.Register b → a ≡ b
fault_is a b is = cc is

pub passed_back : (fault told : RegisterFault) → nodes.Register told ≡ of_register fault → fault ≡ told
passed_back faults.NoMemory told is = absurd (cc is)
passed_back faults.Failed told is = sym (fault_is told _ is)
passed_back (faults.Damaged place) told is = sym (fault_is told _ is)
passed_back faults.LogLimit told is = sym (fault_is told _ is)
passed_back (faults.Behind lce next) told is = sym (fault_is told _ is)
passed_back (faults.Overtaken kept) told is = sym (fault_is told _ is)
passed_back faults.EpochLimit told is = sym (fault_is told _ is)
passed_back faults.GenLimit told is = sym (fault_is told _ is)
passed_back faults.SwapLimit told is = sym (fault_is told _ is)
passed_back faults.Full told is = sym (fault_is told _ is)

pub given_by : {T : Type 0} (r : Result T NodeFault) (fault told : RegisterFault) → IsErr r × IsErrAnd r (λ e. e ≡ of_register fault) → r ≡ refused (nodes.Register told) → fault ≡ told
given_by (Ok given) fault told gives is = absurd gives.1
given_by (Err e) fault told gives is = passed_back fault told (sym (error_is e _ is) ∙ gives.1)

module _ (holds holds_now : Register → Type 0) (n : ℕ) where
  abbrev Answers : RegisterFault → Type 0
  Answers fault = (c : Register) → holds c → IsFree (not_drawn fault) ⊎ ((not_drawn fault ≡ drawn c n) × holds_now (after_draw c n))

  pub generations_end : (fault : RegisterFault) → fault ≡ faults.GenLimit → IsFree (not_drawn fault) ⊎ ((c : Register) × holds c) → Answers fault → (c : Register) × holds c × (2 ^ 32 - 1 ≤ generation_of c n)
  generations_end faults.GenLimit is (inl free) answers = absurd free
  generations_end faults.GenLimit is (inr held) answers = elim (answers held.0 held.1) [
    | inl free ↦ absurd free
    | inr told ↦ (held.0, held.1, no_generation held.0 n told.0)
  ]
  generations_end faults.NoMemory is whole answers = absurd (cc is)
  generations_end faults.Failed is whole answers = absurd (cc is)
  generations_end (faults.Damaged place) is whole answers = absurd (cc is)
  generations_end faults.LogLimit is whole answers = absurd (cc is)
  generations_end (faults.Behind lce next) is whole answers = absurd (cc is)
  generations_end (faults.Overtaken kept) is whole answers = absurd (cc is)
  generations_end faults.EpochLimit is whole answers = absurd (cc is)
  generations_end faults.SwapLimit is whole answers = absurd (cc is)
  generations_end faults.Full is whole answers = absurd (cc is)

  pub room_ends : (fault : RegisterFault) → fault ≡ faults.Full → IsFree (not_drawn fault) ⊎ ((c : Register) × holds c) → Answers fault → (c : Register) × holds c × (is_full c draw_length ≡ true)
  room_ends faults.Full is (inl free) answers = absurd free
  room_ends faults.Full is (inr held) answers = elim (answers held.0 held.1) [
    | inl free ↦ absurd free
    | inr told ↦ (held.0, held.1, no_room held.0 n told.0)
  ]
  room_ends faults.NoMemory is whole answers = absurd (cc is)
  room_ends faults.Failed is whole answers = absurd (cc is)
  room_ends (faults.Damaged place) is whole answers = absurd (cc is)
  room_ends faults.LogLimit is whole answers = absurd (cc is)
  room_ends (faults.Behind lce next) is whole answers = absurd (cc is)
  room_ends (faults.Overtaken kept) is whole answers = absurd (cc is)
  room_ends faults.EpochLimit is whole answers = absurd (cc is)
  room_ends faults.SwapLimit is whole answers = absurd (cc is)
  room_ends faults.GenLimit is whole answers = absurd (cc is)
