-- One part of a list more is read.
use Rattle.std.proofs.Common.{◌≡◌, ◌<◌, ◌+◌, ◌-◌, ℕ, suc, zero, List, [], ◌∷◌, ◌++◌, refl, ap, sym, ◌∙◌, append_assoc, arith}
use Rattle.std.proofs.lemmas.List.{append-nil}
use Rattle.ld_msg.specs.declared.msg.Entry.{Entry}
use Rattle.ld_fields.specs.declared.fault.FieldFault.{FieldFault}
use Rattle.ld_fields.specs.declared.fault.FieldFault.TheVariants.{Bad, NoMemory}
use Rattle.ld_fields.specs.declared.beside.Beside.{Beside}
use Rattle.ld_fields.specs.Faults.{IsOff}
use Rattle.ld_fields.specs.Fields.{Read, Got, Off, follow}
use Rattle.ld_fields.specs.Items.{read_entry, read_entries}
use Rattle.ld_fields.specs.Resumed.{resumed}

pub prefixed : {X : Type 0} (acc : List X) (x : X) (r : Read (List X)) → resumed acc (follow r (λ xs last. Got (x ∷ xs) last)) ≡ resumed (acc ++ x ∷ []) r
prefixed acc x (Got xs last) = ap (λ l. Got l last) (sym (append_assoc acc (x ∷ []) xs))
prefixed acc x (Off place) = refl

pub done : {X : Type 0} (acc : List X) (at : ℕ) → resumed acc (Got [] at) ≡ Got acc at
done acc at = ap (λ l. Got l at) (append-nil acc)

pub less : (n i : ℕ) → i < n → n - i ≡ suc (n - (i + 1))
less n i h = omega arith

pub none_left : (n : ℕ) → n - n ≡ zero
none_left n = omega arith

pub entries_on : (bs : List ℕ) (beside : Beside) (most n i least at : ℕ) (acc : List Entry) (e : Entry) (next : ℕ) → i < n → read_entry bs beside most least at ≡ Got e next
    → resumed (acc ++ e ∷ []) (read_entries bs beside most (n - (i + 1)) (e.number + 1) next) ≡ resumed acc (read_entries bs beside most (n - i) least at)
unfolding read_entries
entries_on bs beside most n i least at acc e next h r = sym (ap (λ k. resumed acc (read_entries bs beside most k least at)) (less n i h)
    ∙ (ap (λ x. resumed acc (follow x (λ e next. follow (read_entries bs beside most (n - (i + 1)) (e.number + 1) next) (λ es last. Got (e ∷ es) last)))) r
    ∙ prefixed acc e (read_entries bs beside most (n - (i + 1)) (e.number + 1) next)))

pub entries_off : (bs : List ℕ) (beside : Beside) (most n i least at : ℕ) (acc : List Entry) (place : ℕ) → i < n → read_entry bs beside most least at ≡ Off place → resumed acc (read_entries bs beside most (n - i) least at) ≡ Off place
unfolding read_entries
entries_off bs beside most n i least at acc place h r = ap (λ k. resumed acc (read_entries bs beside most k least at)) (less n i h)
    ∙ ap (λ x. resumed acc (follow x (λ e next. follow (read_entries bs beside most (n - (i + 1)) (e.number + 1) next) (λ es last. Got (e ∷ es) last)))) r

pub entries_done : (bs : List ℕ) (beside : Beside) (most n i least at : ℕ) (acc : List Entry) → i ≡ n → resumed acc (read_entries bs beside most (n - i) least at) ≡ Got acc at
unfolding read_entries
entries_done bs beside most n i least at acc h = ap (λ k. resumed acc (read_entries bs beside most (n - k) least at)) h ∙ (ap (λ k. resumed acc (read_entries bs beside most k least at)) (none_left n) ∙ done acc at)

-- a fault names the offset of the part
pub entries_fault : (bs : List ℕ) (beside : Beside) (most n i least at : ℕ) (acc : List Entry) (whole : Read (List Entry)) (e : FieldFault) → i < n → resumed acc (read_entries bs beside most (n - i) least at) ≡ whole → IsOff (read_entry bs beside most least at) e → IsOff whole e
entries_fault bs beside most n i least at acc whole (Bad place) h w o = sym w ∙ entries_off bs beside most n i least at acc place h o
entries_fault bs beside most n i least at acc whole NoMemory h w o = tt
