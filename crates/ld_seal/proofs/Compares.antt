-- What a store is to what stands under its number in an index.
use Rattle.std.proofs.Common.{◌≡◌, ℕ, zero, suc, ◌+◌, List, map, length, Option, Bool, true, false, cond, nat_le, nat_lt, refl, sym, ap, ◌∙◌, inl, inr, option_map}
use Rattle.std.proofs.lemmas.Bool.{cases_Bool}
use Rattle.ld_table.specs.Named.{same}
use Rattle.ld_table.specs.Table.{find}
use Rattle.ld_table.specs.Words.{numbers_from}
use Rattle.ld_table.proofs.Laws.{find-map_values}
use Rattle.ld_table.proofs.NameLaws.{same-true}
use Rattle.ld_lsn.specs.Number.{epoch_of}
use Rattle.ld_msg.specs.declared.msg.Entry.{Entry}
use Rattle.ld_msg.specs.declared.msg.Summary.{Summary}
use Rattle.ld_msg.specs.declared.msg.Msg.{Msg}
use Rattle.ld_msg.specs.declared.msg.Body.{Body}
use Rattle.ld_msg.specs.Bounds.{ballot_of}
use Rattle.ld_op.specs.Plain.{Plain, Log, log_of, is_lost, end_here, summary_at}
use Rattle.ld_op.specs.Answers as answers
use Rattle.ld_op.specs.Answers.{is_same, or_clean, store_decision}
use Rattle.ld_op.specs.Cells.{each_entry, each_log, each_plain}
use Rattle.ld_op.proofs.Cells.{log_same}
use Rattle.ld_seal.specs.declared.decision.Decision.{Decision}
use Rattle.ld_seal.specs.declared.decision.Decision.TheVariants as decisions
use Rattle.ld_seal.specs.Decided.{told, store_in, store_decided, is_compare, compared}

long_there : (f : ℕ → ℕ) (at n : ℕ) → length (map f (numbers_from at n)) ≡ n
long_there f at zero = refl
long_there f at (suc n) = ap suc (long_there f (at + 1) n)

-- a payload of another length isn't there
pub same-long : (f : ℕ → ℕ) (at n : ℕ) (p : List ℕ) → (n ≡ length p → ⊥) → same (map f (numbers_from at n)) p ≡ false
same-long f at n p other = elim (cases_Bool (same (map f (numbers_from at n)) p)) [
  | inl is ↦ absurd (other (sym (long_there f at n) ∙ ap length (same-true (map f (numbers_from at n)) p is)))
  | inr not ↦ not
]

-- a store is decided by what the log has, and by whether the same stands there
module _ (f : ℕ → ℕ) (generation : ℕ) (g : Log) (e : Entry) where
  abbrev decided : Bool → Option Summary → Bool → Bool → Bool → answers.Decision
  decided lost clean trimmed sealed same =
      cond lost (answers.Lost (end_here g (epoch_of e.number))) (or_clean clean (cond trimmed (answers.Trimmed g.trim) (cond sealed (answers.Sealed g.sealed) (cond same answers.Same answers.Take))))

  by_log : store_decision (each_log f g) e ≡ decided (is_lost g (epoch_of e.number)) (summary_at g (epoch_of e.number)) (nat_le e.number g.trim) (nat_lt e.ballot g.sealed) (is_same e (find e.number (each_log f g).entries))
  unfolding store_decision summary_at
  by_log = refl

  pub settled : (lost : Bool) (clean : Option Summary) (trimmed sealed same : Bool) → is_lost g (epoch_of e.number) ≡ lost → summary_at g (epoch_of e.number) ≡ clean → nat_le e.number g.trim ≡ trimmed
      → nat_lt e.ballot g.sealed ≡ sealed → is_same e (option_map (each_entry f) (find e.number g.entries)) ≡ same → told generation (store_decision (each_log f g) e) ≡ told generation (decided lost clean trimmed sealed same)
  settled lost clean trimmed sealed same a b c d s =
      ap (told generation) (by_log ∙ (λ i. decided (a i) (b i) (c i) (d i) ((ap (is_same e) (find-map_values (each_entry f) e.number g.entries) ∙ s) i)))

-- what isn't compared is as decided
pub not_compared : (f : ℕ → ℕ) (p : List ℕ) (d : Decision) → is_compare d ≡ false → d ≡ compared f p d
not_compared f p (decisions.Lost generation end) not = refl
not_compared f p (decisions.Clean y) not = refl
not_compared f p (decisions.Trimmed t) not = refl
not_compared f p (decisions.Sealed by) not = refl
not_compared f p decisions.Same not = refl
not_compared f p decisions.Take not = refl
not_compared f p (decisions.Compare place) not = absurd (cc not)

-- the decision on an index is that on the log's index
pub by_index : (f : ℕ → ℕ) (p : Plain) (m : Msg) (b : Body) (ballot : ℕ) → m.body ≡ b → ballot ≡ ballot_of m.from → store_decided (each_plain f p) m ≡ told p.generation (store_in (each_log f (log_of p m.log)) ballot b)
by_index f p m b ballot is by = (λ i. told p.generation (store_in (log_same f p m.log i) (sym by i) (is i)))

pub told-if : (generation : ℕ) (same : Bool) → told generation (cond same answers.Same answers.Take) ≡ cond same decisions.Same decisions.Take
told-if generation true = refl
told-if generation false = refl
