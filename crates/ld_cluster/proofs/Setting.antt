-- What is set for later activations.
use Rattle.std.proofs.Common.{◌≡◌, ◌+◌, ℕ, zero, suc, Bool, true, false, ◌&&◌, List, [], ◌∷◌, drop, Option, Some, refl, ap, sym, ◌∙◌, subst}
use Rattle.std.specs.List.{slice_get}
use Rattle.std.specs.Option.{unwrap_or}
use Rattle.ld_table.specs.Table.{find, put}
use Rattle.ld_table.specs.Words.{all_of}
use Rattle.ld_table.proofs.Places.{drop_at_place}
use Rattle.ld_ids.specs.Set.{members}
use Rattle.ld_ids.specs.declared.set.Spec.{Spec}
use Rattle.ld_config.specs.declared.config.Config.{Config}
use Rattle.ld_schedule.specs.declared.event.Event.TheVariants as events
use Rattle.ld_transcript.specs.declared.line.Line.TheVariants as lines
use Rattle.ld_register.specs.Bounds.{IsSpecFor}
use Rattle.ld_machine.specs.Config.{first_spec, has_log}
use Rattle.ld_machine.specs.State.{State, Done, unchanged, with_line}
use Rattle.ld_machine.specs.Step.{happens, spec_set, can_set}
use Rattle.ld_bounds.specs.Specs.{IsSpecFor as IsSpecIn}
use Rattle.ld_bounds.proofs.Looks.{set_is as set_fits}
use Rattle.ld_clients.specs.declared.outcome.Outcome.{Outcome}
use Rattle.ld_cluster.specs.declared.cluster.Cluster.{Cluster}
use Rattle.ld_cluster.specs.Standing.{config_of, state_of, Parts, IsReached}
use Rattle.ld_cluster.specs.Outcomes.{IsDone}
use Rattle.ld_cluster.proofs.Chosen.{if_yes, if_not}
use Rattle.ld_cluster.proofs.Parting.{nothing_done}

-- ---- the nodes of a set, one after the other ----

module _ (p : ℕ → Bool) (ns : List ℕ) (i n : ℕ) (there : slice_get ns i ≡ Some n) (so_far : all_of p (drop i ns) ≡ all_of p ns) where
  next : (p n && all_of p (drop (i + 1) ns)) ≡ all_of p ns
  next = sym (ap (all_of p) (drop_at_place ns i n there)) ∙ so_far

  pub passes : p n ≡ true → all_of p (drop (i + 1) ns) ≡ all_of p ns
  passes t = sym (ap (λ b. b && all_of p (drop (i + 1) ns)) t) ∙ next

  pub fails : p n ≡ false → false ≡ all_of p ns
  fails f = sym (ap (λ b. b && all_of p (drop (i + 1) ns)) f) ∙ next

none_left : (ns : List ℕ) (i : ℕ) (o : Option ℕ) → o ≡ slice_get ns i → ((n : ℕ) → o ≡ Some n → ⊥) → drop i ns ≡ []
none_left [] zero o e h = refl
none_left [] (suc i) o e h = refl
none_left (n ∷ ns) zero o e h = absurd (h n e)
none_left (n ∷ ns) (suc i) o e h = none_left ns i o e h

pub all_passed : (p : ℕ → Bool) (ns : List ℕ) (i : ℕ) (o : Option ℕ) → o ≡ slice_get ns i → ((n : ℕ) → o ≡ Some n → ⊥) → all_of p (drop i ns) ≡ all_of p ns → true ≡ all_of p ns
all_passed p ns i o e h so_far = sym (ap (all_of p) (none_left ns i o e h)) ∙ so_far

-- ---- what an activation uses ----

pub spec_is : (k : Cluster) (s : State) (l : ℕ) (o : Option Spec) → Parts k s → o ≡ find l k.specs → unwrap_or o (first_spec (config_of k) l) ≡ spec_set (config_of k) s l
spec_is k s l o p h = ap (λ x. unwrap_or x (first_spec (config_of k) l)) (h ∙ ap (find l) (sym p.specs))

is_fixed : (c : Config) (l : ℕ) (spec : Spec) → IsSpecIn c l spec → IsSpecFor l spec
is_fixed c l spec h = record { is = record { log = h.fits.log; set = h.fits.set; least = h.fits.least; most = h.fits.most; few = h.fits.few }; log = h.log }

pub can_fix : (k : Cluster) (l : ℕ) (spec : Spec) → IsReached k → spec ≡ spec_set (config_of k) (state_of k) l → has_log (config_of k) l ≡ true → IsSpecFor l spec
can_fix k l spec r e h = subst (IsSpecFor l) (sym e) (is_fixed (config_of k) l (spec_set (config_of k) (state_of k) l) (set_fits (config_of k) r.bounds (state_of k) l r.sound.specs h))

-- ---- a set ----

set_yes : (c : Config) (s : State) (l r x : ℕ) (set : List Bool) → can_set c l r x (members set) ≡ true
    → happens c s (events.Set l r x set) ≡ with_line (record s { specs = put l (record { log = l; set = set; r = r; extras = x }) s.specs }) (lines.Set l r x set)
unfolding happens
set_yes c s l r x set h = if_yes _ _ _ h

set_no : (c : Config) (s : State) (l r x : ℕ) (set : List Bool) → can_set c l r x (members set) ≡ false → happens c s (events.Set l r x set) ≡ unchanged s
unfolding happens
set_no c s l r x set h = if_not _ _ _ h

module _ (k : Cluster) (s : State) (p : Parts k s) (l r x : ℕ) (set : List Bool) (o : Outcome) where
  pub not_set : can_set (config_of k) l r x (members set) ≡ false → o.lines.items ≡ [] → o.sends ≡ [] → IsDone k k o (happens (config_of k) s (events.Set l r x set))
  not_set h ls ms = nothing_done k s o _ p (set_no (config_of k) s l r x set h) ls ms

  pub set_done : (specs : List (ℕ × Spec)) → can_set (config_of k) l r x (members set) ≡ true → specs ≡ put l (record { log = l; set = set; r = r; extras = x }) k.specs
      → o.lines.items ≡ lines.Set l r x set ∷ [] → o.sends ≡ [] → IsDone k (record k { specs = specs }) o (happens (config_of k) s (events.Set l r x set))
  set_done specs h e ls ms = subst (λ (d : Done). IsDone k (record k { specs = specs }) o d) (sym (set_yes (config_of k) s l r x set h)) (record {
    same = record { config = refl; past = refl };
    parts = record {
      nodes = p.nodes;
      register = p.register;
      network = p.network;
      sequencers = record { sequencers = p.sequencers.sequencers; logs = p.sequencers.logs };
      readers = record { readers = p.readers.readers; logs = p.readers.logs };
      specs = ap (put l (record { log = l; set = set; r = r; extras = x })) p.specs ∙ sym e;
    };
    lines = ls;
    sends = ms;
  })
