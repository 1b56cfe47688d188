-- What each call answers by the contents.
use Rattle.std.proofs.Common.{◌≡◌, ◌≤◌, ◌<◌, ◌+◌, ◌^◌, ◌==◌, ℕ, Bool, true, false, not, nat_le, List, Option, None, Some, Ok, Err, refl, ap, sym, ◌∙◌, arith, if◌then◌else◌}
use Rattle.std.specs.Option.{unwrap_or}
use Rattle.std.proofs.lemmas.Bool.{lt-ltb, le-ltb, lt-leb, le-leb, eq-eqb, ne_eqb}
use Rattle.std.proofs.lemmas.Bool.Decides.{nat_tests}
use Rattle.ld_table.specs.Table.{find, put}
use Rattle.ld_table.proofs.Laws.{find-put_same, find-put_other}
use Rattle.ld_ids.specs.declared.set.Spec.{Spec}
use Rattle.ld_msg.specs.declared.msg.Summary.{Summary}
use Rattle.ld_msg.specs.Register.{Register, Epochs, Changed, Answer, Granted, AtLimit, Behind, Overtaken, Fails, no_epochs, epochs_of, generation_of, lce_of, is_overtaken, epoch_limit, generation_limit, swap_limit, journal_limit, record_length, change, activate, close, draw, swap, swappable, next_epoch, closed_epochs, swapped_epochs, with_epochs, is_crowded, epochs_in, epoch_shown}
use Rattle.ld_register.specs.declared.fault.RegisterFault.TheVariants as faults
use Rattle.ld_register.specs.declared.change.Change.TheVariants as changes
use Rattle.ld_register.specs.declared.register.Grant.{Grant}
use Rattle.ld_register.specs.Calls.{ended, close_ended, is_full, activated, after_activate, granted, closed, after_close, drawn, after_draw, swapped, after_swap, spec_told, next_told}
use Rattle.ld_register.specs.Changes.{changed, is_next}
use Rattle.ld_register.specs.Kept.{Kept, register_of}

abbrev pub to : Register → Answer → Changed
to r a = record { register = r; answer = a }

-- ---- a change, with no fault armed ----

change_full : (k : Kept) (n : ℕ) (next : Register) (b : ℕ) → journal_limit < n + record_length b → change (register_of k n) next b ≡ to (register_of k n) Fails
unfolding change
change_full k n next b h = rw (lt-ltb journal_limit (n + record_length b) h) refl

change_made : (k : Kept) (n : ℕ) (next : Register) (b : ℕ) → n + record_length b ≤ journal_limit → change (register_of k n) next b ≡ to (record next { length = n + record_length b; armed = None }) Granted
unfolding change
change_made k n next b h = rw (le-ltb journal_limit (n + record_length b) h) refl

-- ---- what is told of what is fixed ----

-- of an epoch that is handed out its own is shown
pub shown_there : (v : Epochs) (e : ℕ) → 1 ≤ e → e ≤ v.epoch → epoch_shown v e ≡ e
shown_there v e one most = grind (arith, nat_tests)

-- the epoch behind the last closed one is the new one, or none that is handed out
new_shown : (v : Epochs) (s : Spec) → v.epoch ≤ v.lce → epoch_shown (next_epoch v s) (v.lce + 1) ≡ v.epoch + 1
new_shown v s h = grind (arith, nat_tests)

next_new : (v : Epochs) (s : Spec) → v.epoch ≤ v.lce → Some s ≡ find (epoch_shown (next_epoch v s) (v.lce + 1)) (next_epoch v s).swapped
next_new v s h = sym (find-put_same (epoch_shown (next_epoch v s) (v.lce + 1)) (v.epoch + 1) s v.swapped (new_shown v s h))

-- or it was handed out before
next_old : (v : Epochs) (s : Spec) → v.lce < v.epoch → find (epoch_shown v (v.lce + 1)) v.swapped ≡ find (epoch_shown (next_epoch v s) (v.lce + 1)) (next_epoch v s).swapped
next_old v s h =
    let there : epoch_shown v (v.lce + 1) ≡ v.lce + 1 = shown_there v (v.lce + 1) (omega arith) (omega arith) in
    let after : epoch_shown (next_epoch v s) (v.lce + 1) ≡ v.lce + 1 = shown_there (next_epoch v s) (v.lce + 1) (omega arith) (omega arith) in
    ap (λ e. find e v.swapped) (there ∙ sym after) ∙ sym (find-put_other (epoch_shown (next_epoch v s) (v.lce + 1)) (v.epoch + 1) s v.swapped (λ e. let z = sym after ∙ e in omega arith))

activated_is : (r : Register) (e : ℕ) (s : Spec) → epochs_of (changed r (changes.Activate e s)) s.log ≡ next_epoch (epochs_of r s.log) s
activated_is r e s = ap (λ o. unwrap_or o no_epochs) (find-put_same s.log s.log (next_epoch (epochs_of r s.log) s) r.logs refl)

abbrev told_in : Epochs → ℕ → Option Spec
told_in v e = find (epoch_shown v e) v.swapped

pub tells_new : (r : Register) (e : ℕ) (s : Spec) → (epochs_of r s.log).epoch ≤ lce_of r s.log → Some s ≡ next_told (changed r (changes.Activate e s)) s.log
tells_new r e s h = next_new (epochs_of r s.log) s h ∙ ap (λ v. told_in v (v.lce + 1)) (sym (activated_is r e s))

pub tells_old : (r : Register) (e : ℕ) (s : Spec) → lce_of r s.log < (epochs_of r s.log).epoch → spec_told r s.log (lce_of r s.log + 1) ≡ next_told (changed r (changes.Activate e s)) s.log
tells_old r e s h = next_old (epochs_of r s.log) s h ∙ ap (λ v. told_in v (v.lce + 1)) (sym (activated_is r e s))

closed_is : (r : Register) (l e : ℕ) (y : Summary) → epochs_of (changed r (changes.Close l e y)) l ≡ closed_epochs (epochs_of r l) e y
closed_is r l e y = ap (λ o. unwrap_or o no_epochs) (find-put_same l l (closed_epochs (epochs_of r l) e y) r.logs refl)

-- a close changes nothing of what is fixed
pub tells_behind : (r : Register) (l e : ℕ) (y : Summary) → spec_told r l (e + 1) ≡ next_told (changed r (changes.Close l e y)) l
tells_behind r l e y = ap (λ v. told_in v (v.lce + 1)) (sym (closed_is r l e y))

-- ---- an activation ----

abbrev pub grant_in : Register → Spec → Register → Grant
grant_in r s d = record { epoch = (epochs_of d s.log).epoch; lce = lce_of r s.log; next = next_told d s.log }

pub activated_by : (r : Register) (s : Spec) (ch : Changed) (full : Bool) → is_crowded r s.log ≡ false → activate r s.log s ≡ ch → is_full r 13 ≡ full
    → (ended ch.answer full faults.EpochLimit (grant_in r s ch.register) ≡ activated r s) × (after_activate r s ≡ ch.register)
activated_by r s ch full c a f =
    let after : after_activate r s ≡ ch.register = ap (λ b. if b then r else (activate r s.log s).register) c ∙ ap (λ x. x.register) a in
    let grant : granted r s ≡ grant_in r s ch.register = ap (grant_in r s) after in (
      sym (ap (λ b. if b then Err faults.LogLimit else ended (activate r s.log s).answer (is_full r 13) faults.EpochLimit (granted r s)) c
          ∙ (ap (λ x. ended x.answer (is_full r 13) faults.EpochLimit (granted r s)) a ∙ (ap (λ b. ended ch.answer b faults.EpochLimit (granted r s)) f ∙ ap (λ v. ended ch.answer full faults.EpochLimit v) grant))),
      after,
    )

pub crowded_activate : (r : Register) (s : Spec) → is_crowded r s.log ≡ true → (Err faults.LogLimit ≡ activated r s) × (after_activate r s ≡ r)
crowded_activate r s c = (sym (ap (λ b. if b then Err faults.LogLimit else ended (activate r s.log s).answer (is_full r 13) faults.EpochLimit (granted r s)) c), ap (λ b. if b then r else (activate r s.log s).register) c)

activate_limit : (r : Register) (s : Spec) → epoch_limit ≤ (epochs_of r s.log).epoch → activate r s.log s ≡ to r AtLimit
unfolding activate
activate_limit r s h = rw (le-leb epoch_limit (epochs_of r s.log).epoch h) refl

activate_changes : (r : Register) (s : Spec) → (epochs_of r s.log).epoch < epoch_limit → activate r s.log s ≡ change r (with_epochs r s.log (next_epoch (epochs_of r s.log) s)) 13
unfolding activate
activate_changes r s h = rw (lt-leb epoch_limit (epochs_of r s.log).epoch h) refl

pub limit_activate : (r : Register) (s : Spec) → is_crowded r s.log ≡ false → epoch_limit ≤ (epochs_of r s.log).epoch → (Err faults.EpochLimit ≡ activated r s) × (after_activate r s ≡ r)
limit_activate r s c h = activated_by r s (to r AtLimit) (is_full r 13) c (activate_limit r s h) refl

pub full_activate : (k : Kept) (n : ℕ) (s : Spec) → is_crowded (register_of k n) s.log ≡ false → (epochs_of (register_of k n) s.log).epoch < epoch_limit → 2 ^ 40 < n + 18 → (Err faults.Full ≡ activated (register_of k n) s) × (after_activate (register_of k n) s ≡ register_of k n)
full_activate k n s c h f = activated_by (register_of k n) s (to (register_of k n) Fails) true c (activate_changes (register_of k n) s h ∙ change_full k n _ 13 (omega arith)) (lt-ltb journal_limit (n + record_length 13) (omega arith))

pub made_activate : (k : Kept) (n e : ℕ) (s : Spec) (next : Option Spec) → is_crowded (register_of k n) s.log ≡ false → (epochs_of (register_of k n) s.log).epoch < epoch_limit → n + 18 ≤ 2 ^ 40 → e ≡ (epochs_of (register_of k n) s.log).epoch + 1
    → next ≡ next_told (changed (register_of k n) (changes.Activate e s)) s.log
    → (Ok (record { epoch = e; lce = lce_of (register_of k n) s.log; next = next }) ≡ activated (register_of k n) s) × (after_activate (register_of k n) s ≡ changed (register_of k n) (changes.Activate e s))
made_activate k n e s next c h f is told =
    let r = register_of k n in
    let a = activated_by r s (to (changed r (changes.Activate e s)) Granted) false c (activate_changes r s h ∙ change_made k n _ 13 (omega arith)) (le-ltb journal_limit (n + record_length 13) (omega arith)) in (
      ap (λ v. Ok (record { epoch = v; lce = lce_of r s.log; next = next })) (is ∙ sym (ap (λ v. v.epoch) (activated_is r e s)))
          ∙ (ap (λ v. Ok (record { epoch = (epochs_of (changed r (changes.Activate e s)) s.log).epoch; lce = lce_of r s.log; next = v })) told ∙ a.0),
      a.1,
    )

-- ---- a close ----

pub closed_by : (r : Register) (l e : ℕ) (y : Summary) (short : Bool) (ch : Changed) (full : Bool) → is_crowded r l ≡ false → close r l e y short ≡ ch → is_full r 30 ≡ full
    → (close_ended ch.answer full (next_told r l) (next_told ch.register l) ≡ closed r l e y short) × (after_close r l e y short ≡ ch.register)
closed_by r l e y short ch full c a f =
    let after : after_close r l e y short ≡ ch.register = ap (λ b. if b then r else (close r l e y short).register) c ∙ ap (λ x. x.register) a in (
      sym (ap (λ b. if b then Err faults.LogLimit else close_ended (close r l e y short).answer (is_full r 30) (next_told r l) (next_told (after_close r l e y short) l)) c
          ∙ (ap (λ x. close_ended x.answer (is_full r 30) (next_told r l) (next_told (after_close r l e y short) l)) a
          ∙ (ap (λ b. close_ended ch.answer b (next_told r l) (next_told (after_close r l e y short) l)) f ∙ ap (λ d. close_ended ch.answer full (next_told r l) (next_told d l)) after))),
      after,
    )

pub crowded_close : (r : Register) (l e : ℕ) (y : Summary) (short : Bool) → is_crowded r l ≡ true → (Err faults.LogLimit ≡ closed r l e y short) × (after_close r l e y short ≡ r)
crowded_close r l e y short c = (sym (ap (λ b. if b then Err faults.LogLimit else close_ended (close r l e y short).answer (is_full r 30) (next_told r l) (next_told (after_close r l e y short) l)) c), ap (λ b. if b then r else (close r l e y short).register) c)

abbrev pub closing : Register → ℕ → ℕ → Summary → Register
closing r l e y = with_epochs r l (closed_epochs (epochs_of r l) e y)

-- a close by whether the epoch is the next one and whether it comes too late
pub close_at : (r : Register) (l e : ℕ) (y : Summary) (short next late : Bool) → (lce_of r l + 1 == e) ≡ next → is_overtaken (epochs_of r l) y short ≡ late
    → close r l e y short ≡ (if not next then to r (Behind (lce_of r l)) else if late then to r (Overtaken (epochs_of r l).epoch) else change r (closing r l e y) 30)
unfolding close
close_at r l e y short next late n t =
    ap (λ b. if not b then to r (Behind (lce_of r l)) else if is_overtaken (epochs_of r l) y short then to r (Overtaken (epochs_of r l).epoch) else change r (closing r l e y) 30) n
    ∙ ap (λ b. if not next then to r (Behind (lce_of r l)) else if b then to r (Overtaken (epochs_of r l).epoch) else change r (closing r l e y) 30) t

pub behind_close : (r : Register) (l e : ℕ) (y : Summary) (short : Bool) → is_crowded r l ≡ false → (lce_of r l + 1 ≡ e → ⊥) → (Err (faults.Behind (lce_of r l) (next_told r l)) ≡ closed r l e y short) × (after_close r l e y short ≡ r)
behind_close r l e y short c h = closed_by r l e y short (to r (Behind (lce_of r l))) (is_full r 30) c (close_at r l e y short false (is_overtaken (epochs_of r l) y short) (ne_eqb (lce_of r l + 1) e h) refl) refl

pub overtaken_close : (r : Register) (l e : ℕ) (y : Summary) (short : Bool) → is_crowded r l ≡ false → lce_of r l + 1 ≡ e → is_overtaken (epochs_of r l) y short ≡ true → (Err (faults.Overtaken (epochs_of r l).epoch) ≡ closed r l e y short) × (after_close r l e y short ≡ r)
overtaken_close r l e y short c h t = closed_by r l e y short (to r (Overtaken (epochs_of r l).epoch)) (is_full r 30) c (close_at r l e y short true true (eq-eqb (lce_of r l + 1) e h) t) refl

pub full_close : (k : Kept) (n l e : ℕ) (y : Summary) (short : Bool) → is_crowded (register_of k n) l ≡ false → lce_of (register_of k n) l + 1 ≡ e → is_overtaken (epochs_of (register_of k n) l) y short ≡ false → 2 ^ 40 < n + 35
    → (Err faults.Full ≡ closed (register_of k n) l e y short) × (after_close (register_of k n) l e y short ≡ register_of k n)
full_close k n l e y short c h t f = closed_by (register_of k n) l e y short (to (register_of k n) Fails) true c
    (close_at (register_of k n) l e y short true false (eq-eqb (lce_of (register_of k n) l + 1) e h) t ∙ change_full k n _ 30 (omega arith)) (lt-ltb journal_limit (n + record_length 30) (omega arith))

pub made_close : (k : Kept) (n l e : ℕ) (y : Summary) (short : Bool) (next : Option Spec) → is_crowded (register_of k n) l ≡ false → lce_of (register_of k n) l + 1 ≡ e → is_overtaken (epochs_of (register_of k n) l) y short ≡ false → n + 35 ≤ 2 ^ 40
    → next ≡ spec_told (register_of k n) l (e + 1)
    → (Ok next ≡ closed (register_of k n) l e y short) × (after_close (register_of k n) l e y short ≡ changed (register_of k n) (changes.Close l e y))
made_close k n l e y short next c h t f told =
    let r = register_of k n in
    let a = closed_by r l e y short (to (changed r (changes.Close l e y)) Granted) false c
    (close_at r l e y short true false (eq-eqb (lce_of r l + 1) e h) t ∙ change_made k n _ 30 (omega arith)) (le-ltb journal_limit (n + record_length 30) (omega arith)) in
    (ap (λ v. Ok v) (told ∙ tells_behind r l e y) ∙ a.0, a.1)

-- ---- a draw ----

pub drawn_by : (r : Register) (a : ℕ) (ch : Changed) (full : Bool) → draw r a ≡ ch → is_full r 6 ≡ full
    → (ended ch.answer full faults.GenLimit (record { gen_ = generation_of ch.register a; epochs = epochs_in ch.register.logs }) ≡ drawn r a) × (after_draw r a ≡ ch.register)
drawn_by r a ch full d f = (
  sym (ap (λ x. ended x.answer (is_full r 6) faults.GenLimit (record { gen_ = generation_of x.register a; epochs = epochs_in x.register.logs })) d
      ∙ ap (λ b. ended ch.answer b faults.GenLimit (record { gen_ = generation_of ch.register a; epochs = epochs_in ch.register.logs })) f),
  ap (λ x. x.register) d,
)

draw_limit : (r : Register) (a : ℕ) → generation_limit ≤ generation_of r a → draw r a ≡ to r AtLimit
unfolding draw
draw_limit r a h = rw (le-leb generation_limit (generation_of r a) h) refl

draw_changes : (r : Register) (a : ℕ) → generation_of r a < generation_limit → draw r a ≡ change r (record r { generations = put a (generation_of r a + 1) r.generations }) 6
unfolding draw
draw_changes r a h = rw (lt-leb generation_limit (generation_of r a) h) refl

pub limit_draw : (r : Register) (a : ℕ) → generation_limit ≤ generation_of r a → (Err faults.GenLimit ≡ drawn r a) × (after_draw r a ≡ r)
limit_draw r a h = drawn_by r a (to r AtLimit) (is_full r 6) (draw_limit r a h) refl

pub full_draw : (k : Kept) (n a : ℕ) → generation_of (register_of k n) a < generation_limit → 2 ^ 40 < n + 11 → (Err faults.Full ≡ drawn (register_of k n) a) × (after_draw (register_of k n) a ≡ register_of k n)
full_draw k n a h f = drawn_by (register_of k n) a (to (register_of k n) Fails) true (draw_changes (register_of k n) a h ∙ change_full k n _ 6 (omega arith)) (lt-ltb journal_limit (n + record_length 6) (omega arith))

pub made_draw : (k : Kept) (n a v : ℕ) (es : List (ℕ × ℕ)) → generation_of (register_of k n) a < generation_limit → n + 11 ≤ 2 ^ 40 → v ≡ generation_of (register_of k n) a + 1 → es ≡ epochs_in (register_of k n).logs
    → (Ok (record { gen_ = v; epochs = es }) ≡ drawn (register_of k n) a) × (after_draw (register_of k n) a ≡ changed (register_of k n) (changes.Draw a v))
made_draw k n a v es h f is all =
    let r = register_of k n in
    let s = drawn_by r a (to (changed r (changes.Draw a v)) Granted) false (draw_changes r a h ∙ change_made k n _ 6 (omega arith)) (le-ltb journal_limit (n + record_length 6) (omega arith)) in
    let put_is : generation_of (changed r (changes.Draw a v)) a ≡ generation_of r a + 1 = ap (λ o. unwrap_or o 0) (find-put_same a a (generation_of r a + 1) r.generations refl) in
    (ap (λ g. Ok (record { gen_ = g; epochs = es })) (is ∙ sym put_is) ∙ (ap (λ e. Ok (record { gen_ = generation_of (changed r (changes.Draw a v)) a; epochs = e })) all ∙ s.0), s.1)

-- ---- a swap ----

abbrev pub swapping : Register → ℕ → ℕ → ℕ → ℕ → Register
swapping r l t o w = with_epochs r l (swapped_epochs (epochs_of r l) t o w)

-- a swap by whether it changes an epoch and whether there were as many as may be
pub swap_at : (r : Register) (l t o w : ℕ) (none limit : Bool) → (swappable r l t o w == 0) ≡ none → nat_le swap_limit (epochs_of r l).swaps ≡ limit
    → swap r l t o w ≡ (if none then to r Granted else if limit then to r AtLimit else change r (swapping r l t o w) 11)
unfolding swap
swap_at r l t o w none limit n h =
    ap (λ b. if b then to r Granted else if nat_le swap_limit (epochs_of r l).swaps then to r AtLimit else change r (swapping r l t o w) 11) n
    ∙ ap (λ b. if none then to r Granted else if b then to r AtLimit else change r (swapping r l t o w) 11) h

pub swapped_by : (r : Register) (l t o w : ℕ) (ch : Changed) (full : Bool) → swap r l t o w ≡ ch → is_full r 11 ≡ full
    → (ended ch.answer full faults.SwapLimit (swappable r l t o w) ≡ swapped r l t o w) × (after_swap r l t o w ≡ ch.register)
swapped_by r l t o w ch full d f = (
  sym (ap (λ x. ended x.answer (is_full r 11) faults.SwapLimit (swappable r l t o w)) d ∙ ap (λ b. ended ch.answer b faults.SwapLimit (swappable r l t o w)) f),
  ap (λ x. x.register) d,
)

pub idle_swap : (r : Register) (l t o w : ℕ) → swappable r l t o w ≡ 0 → (Ok 0 ≡ swapped r l t o w) × (after_swap r l t o w ≡ r)
idle_swap r l t o w h =
    let s = swapped_by r l t o w (to r Granted) (is_full r 11) (swap_at r l t o w true (nat_le swap_limit (epochs_of r l).swaps) (eq-eqb (swappable r l t o w) 0 h) refl) refl in
    (ap (λ n. Ok n) (sym h) ∙ s.0, s.1)

pub limit_swap : (r : Register) (l t o w : ℕ) → (swappable r l t o w ≡ 0 → ⊥) → swap_limit ≤ (epochs_of r l).swaps → (Err faults.SwapLimit ≡ swapped r l t o w) × (after_swap r l t o w ≡ r)
limit_swap r l t o w some h = swapped_by r l t o w (to r AtLimit) (is_full r 11) (swap_at r l t o w false true (ne_eqb (swappable r l t o w) 0 some) (le-leb swap_limit (epochs_of r l).swaps h)) refl

pub full_swap : (k : Kept) (n l t o w : ℕ) → (swappable (register_of k n) l t o w ≡ 0 → ⊥) → (epochs_of (register_of k n) l).swaps < swap_limit → 2 ^ 40 < n + 16
    → (Err faults.Full ≡ swapped (register_of k n) l t o w) × (after_swap (register_of k n) l t o w ≡ register_of k n)
full_swap k n l t o w some h f = swapped_by (register_of k n) l t o w (to (register_of k n) Fails) true
    (swap_at (register_of k n) l t o w false false (ne_eqb (swappable (register_of k n) l t o w) 0 some) (lt-leb swap_limit (epochs_of (register_of k n) l).swaps h) ∙ change_full k n _ 11 (omega arith)) (lt-ltb journal_limit (n + record_length 11) (omega arith))

pub made_swap : (k : Kept) (n l t o w v : ℕ) → (swappable (register_of k n) l t o w ≡ 0 → ⊥) → (epochs_of (register_of k n) l).swaps < swap_limit → n + 16 ≤ 2 ^ 40 → v ≡ swappable (register_of k n) l t o w
    → (Ok v ≡ swapped (register_of k n) l t o w) × (after_swap (register_of k n) l t o w ≡ changed (register_of k n) (changes.Swap l t o w))
made_swap k n l t o w v some h f is =
    let r = register_of k n in
    let s = swapped_by r l t o w (to (changed r (changes.Swap l t o w)) Granted) false
    (swap_at r l t o w false false (ne_eqb (swappable r l t o w) 0 some) (lt-leb swap_limit (epochs_of r l).swaps h) ∙ change_made k n _ 11 (omega arith)) (le-ltb journal_limit (n + record_length 11) (omega arith)) in
    (ap (λ x. Ok x) is ∙ s.0, s.1)

-- a swap that changes an epoch and may be made is the next change
pub next_swap : (r : Register) (l t o w : ℕ) → (swappable r l t o w ≡ 0 → ⊥) → (epochs_of r l).swaps < swap_limit → is_next r (changes.Swap l t o w) ≡ true
next_swap r l t o w some h = rw (lt-ltb 0 (swappable r l t o w) (omega arith), lt-ltb (epochs_of r l).swaps swap_limit h) refl
