-- What the bounds of a configuration say of a log.
use Rattle.std.proofs.Common.{◌≡◌, ℕ, Bool, true, false, ◌==◌, ◌||◌, List, [], ◌∷◌, sym, ◌∙◌, ap, subst, if◌then◌else◌}
use Rattle.ld_table.specs.Words.{any_of}
use Rattle.ld_ids.specs.declared.set.Spec.{Spec}
use Rattle.ld_register.specs.Bounds.{IsSpec, IsSpecFor}
use Rattle.ld_config.specs.declared.config.Config.{Config}
use Rattle.ld_config.specs.Bounds.{IsInBounds, IsSpecOf, AreSpecsOf}
use Rattle.ld_machine.specs.Config.{spec_in, first_spec, has_log}
use Rattle.ld_clients.proofs.Logs.{spec_log}

fits : (nodes : List Bool) (s : Spec) → IsSpecOf nodes s → IsSpec s
fits nodes s h = record { log = h.log; set = h.set; least = h.least; most = h.most; few = h.few }

first_step : (b : Bool) (x y : Spec) (t : Bool) → IsSpec x → (b || t) ≡ true → (t ≡ true → IsSpec y) → IsSpec (if b then x else y)
first_step true x y t h k ih = h
first_step false x y t h k ih = ih k

first_of : (nodes : List Bool) (l : ℕ) (ss : List Spec) → AreSpecsOf nodes ss → any_of (λ s. s.log == l) ss ≡ true → IsSpec (spec_in l ss)
first_of nodes l [] h k = absurd cc
first_of nodes l (s ∷ ss) h k = first_step (s.log == l) s (spec_in l ss) (any_of (λ x. x.log == l) ss) (fits nodes s h.0) k (λ t. first_of nodes l ss h.2 t)

-- the first nodes, factor and extras of a log may be fixed for it
pub first_fits : (c : Config) (l m : ℕ) (first : Spec) → IsInBounds c → first ≡ first_spec c l → has_log c l ≡ true → m ≡ l → IsSpecFor m first
first_fits c l m first b e h n = record {
  is = subst IsSpec (sym e) (first_of c.nodes l c.logs b.specs h);
  log = ap (λ (x : Spec). x.log) e ∙ (spec_log l c.logs ∙ sym n);
}
