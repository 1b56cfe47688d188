-- Which epochs a node serves.
use Rattle.std.proofs.Common.{◌≡◌, ◌∙◌, ◌⊎◌, inl, inr, refl, ap, sym, ℕ, Bool, true, false, if◌then◌else◌, ◌==◌, Option, Some, None}
use Rattle.ld_table.specs.Table.{find, put}
use Rattle.ld_table.proofs.Laws.{put_cases}
use Rattle.ld_msg.specs.declared.msg.Summary.{Summary}
use Rattle.ld_op.specs.Plain.{Plain, Log, log_of, is_lost, summary_at, epoch_zero}
use Rattle.ld_safety.proofs.Lists.{not_none, not_both, cond_both}
use Rattle.ld_safety.proofs.NodeSteps.{Served}

-- the epoch isn't served: it is lost or clean there
abbrev pub Unserved : Log → ℕ → Type 0
Unserved g e = (is_lost g e ≡ true) ⊎ ((y : Summary) × (summary_at g e ≡ Some y))

-- the epoch is clean there
abbrev pub CleanAt : Log → ℕ → Type 0
CleanAt g e = (y : Summary) × (summary_at g e ≡ Some y)

-- the node is blank, or doesn't serve the epoch
abbrev pub Gone : Plain → ℕ → ℕ → Type 0
Gone p l e = (p.generation ≡ 0) ⊎ Unserved (log_of p l) e

pub served_or : (g : Log) (e : ℕ) → Unserved g e ⊎ Served g e
served_or g e = by_both (is_lost g e) refl (summary_at g e) refl where
  by_both : (b : Bool) → is_lost g e ≡ b → (o : Option Summary) → summary_at g e ≡ o → Unserved g e ⊎ Served g e
  by_both true l o s = inl (inl l)
  by_both false l (Some y) s = inl (inr (y, s))
  by_both false l None s = inr (record { found_here = l; unclean = s })

pub not_served : (g : Log) (e : ℕ) → Unserved g e → Served g e → ⊥
not_served g e (inl a) s = not_both _ a s.found_here
not_served g e (inr a) s = let q : None ≡ Some a.0 = sym s.unclean ∙ a.1 in not_none q

pub same_summary : (g h : Log) (e : ℕ) → find e h.summaries ≡ find e g.summaries → summary_at h e ≡ summary_at g e
unfolding summary_at
same_summary g h e q = ap (λ o. if e == 0 then Some epoch_zero else o) q

pub some_summary : (h : Log) (e : ℕ) (y : Summary) → find e h.summaries ≡ Some y → (z : Summary) × (summary_at h e ≡ Some z)
unfolding summary_at
some_summary h e y q = cond_both (e == 0) (Some epoch_zero) (find e h.summaries) (λ o. (z : Summary) × (o ≡ Some z)) (λ t. (epoch_zero, refl)) (λ t. (y, q))

-- a summary that is put
pub put_summary : (g h : Log) (k e : ℕ) (y : Summary) → h.summaries ≡ put k y g.summaries → ((e ≡ k) × ((z : Summary) × (summary_at h e ≡ Some z))) ⊎ ((e ≡ k → ⊥) × (summary_at h e ≡ summary_at g e))
put_summary g h k e y q = elim (put_cases e k y g.summaries) [
  | inl a ↦ inl (a.0, some_summary h e y (ap (find e) q ∙ a.1))
  | inr a ↦ inr (a.0, same_summary g h e (ap (find e) q ∙ a.1))
]
