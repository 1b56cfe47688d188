-- Nodes that take the places of others.
use Rattle.std.proofs.Common.{◌≡◌, ◌==◌, ◌||◌, ℕ, Bool, true, false, ◌&&◌, nat_le, nat_lt, cond, [], ◌∷◌, ◌+◌, Ok, refl, ap, sym, ◌∙◌, subst, if◌then◌else◌}
use Rattle.std.proofs.lemmas.Bool.{cond_both}
use Rattle.ld_config.specs.declared.config.Config.{Config}
use Rattle.ld_schedule.specs.declared.event.Event.TheVariants as events
use Rattle.ld_transcript.specs.declared.line.Line.TheVariants as lines
use Rattle.ld_msg.specs.Register.{Register, Changed, Granted, AtLimit, Fails, swap, swappable, swap_limit, swapped_epochs, with_epochs, epochs_of, change, falls, journal_limit, record_length}
use Rattle.ld_op.specs.Plain.{log_of}
use Rattle.ld_machine.specs.Config.{has_node}
use Rattle.ld_machine.specs.State.{State, Done, node_at, with_register, unchanged, with_line}
use Rattle.ld_machine.specs.Step as step
use Rattle.ld_machine.specs.Step.{happens, replaces, replaces_with}
use Rattle.ld_register.specs.Calls.{ended, swapped, after_swap, is_full, swap_length}
use Rattle.ld_register.specs.declared.fault.RegisterFault.TheVariants as faults
use Rattle.ld_register.specs.Arming.{Foresees}
use Rattle.ld_host.specs.Standing.{AreHosts, node_in}
use Rattle.ld_host.specs.Done.{replaced, after_replace}
use Rattle.ld_clients.specs.declared.outcome.Outcome.{Outcome}
use Rattle.ld_cluster.specs.declared.cluster.Cluster.{Cluster}
use Rattle.ld_cluster.specs.Standing.{config_of, past_of, Parts}
use Rattle.ld_cluster.specs.Outcomes.{IsDone}
use Rattle.ld_cluster.specs.Swaps.{swap_lines}
use Rattle.ld_cluster.proofs.Chosen.{where_not, no_and}
use Rattle.ld_cluster.proofs.Parting.{nothing_done, hosted_done}

-- ---- a swap ----

module _ (s : State) (n other l count : ℕ) (full : Bool) where
  -- what the register then holds, and the line
  abbrev swap_done : Changed → Done
  swap_done d = record { state = with_register s d.register; lines = swap_lines n l other (ended d.answer full faults.SwapLimit count); sends = [] }

  abbrev IsSwap : Changed → Type 0
  IsSwap d = replaces_with s n other l count d ≡ swap_done d

  granted_by : (b : Bool) (r : Register) → (b ≡ true → r ≡ s.register)
      → (if b then unchanged s else with_line (with_register s r) (lines.NodeReplaced n l other count)) ≡ record { state = with_register s r; lines = if b then [] else lines.NodeReplaced n l other count ∷ []; sends = [] }
  granted_by true r h = ap (λ x. record { state = with_register s x; lines = []; sends = [] }) (sym (h refl))
  granted_by false r h = refl

  granted : (r : Register) → ((count == 0) ≡ true → r ≡ s.register) → IsSwap (record { register = r; answer = Granted })
  granted r h = granted_by (count == 0) r h

  failed_by : (f : Bool) (r : Register) → with_line (with_register s r) (lines.NodeRefusedRegister n) ≡ record { state = with_register s r; lines = swap_lines n l other (ended Fails f faults.SwapLimit count); sends = [] }
  failed_by true r = refl
  failed_by false r = refl

  changed_by : (b : Bool) (r : Register) → (count == 0) ≡ false → IsSwap (record { register = r; answer = if b then Fails else Granted })
  changed_by true r h = failed_by full r
  changed_by false r h = granted r (λ t. absurd (let e : true ≡ false = sym t ∙ h in cc))

swap_is : (s : State) (n other l upto : ℕ) → replaces s n other l upto
    ≡ record { state = with_register s (after_swap s.register l upto other n); lines = swap_lines n l other (swapped s.register l upto other n); sends = [] }
unfolding swap change
swap_is s n other l upto =
    let r : Register = s.register in
    let count : ℕ = swappable r l upto other n in
    let full : Bool = is_full r swap_length in
    let next : Register = with_epochs r l (swapped_epochs (epochs_of r l) upto other n) in
    cond_both (count == 0) (record { register = r; answer = Granted }) (cond (nat_le swap_limit (epochs_of r l).swaps) (record { register = r; answer = AtLimit }) (change r next 11)) (IsSwap s n other l count full)
    (λ t. granted s n other l count full r (λ e. refl))
    (λ t. cond_both (nat_le swap_limit (epochs_of r l).swaps) (record { register = r; answer = AtLimit }) (change r next 11) (IsSwap s n other l count full) (λ u. refl)
    (λ u. changed_by s n other l count full (nat_lt journal_limit (r.length + record_length 11) || falls r.armed) (change r next 11).register t))

-- where the node may take the place, and where it may not
replaced_by : (s : State) (n other l upto : ℕ) (b : Bool) → (if b then replaces s n other l upto else unchanged s)
    ≡ record { state = with_register s (if b then after_swap s.register l upto other n else s.register); lines = swap_lines n l other (if b then swapped s.register l upto other n else Ok 0); sends = [] }
replaced_by s n other l upto true = swap_is s n other l upto
replaced_by s n other l upto false = refl

replace_is : (c : Config) (s : State) (n other l : ℕ) → has_node c n ≡ true → happens c s (events.Replace n other l)
    ≡ record { state = with_register s (after_replace c n (node_in s.nodes n) other l s.register); lines = swap_lines n l other (replaced c n (node_in s.nodes n) other l s.register); sends = [] }
unfolding happens
replace_is c s n other l h = let upto : ℕ = (log_of (node_at s n).plain l).lost_to in
    ap (λ b. if b && step.can_replace c s n other l then replaces s n other l upto else unchanged s) h ∙ replaced_by s n other l upto (step.can_replace c s n other l)

replace_nowhere : (c : Config) (s : State) (n other l : ℕ) → has_node c n ≡ false → happens c s (events.Replace n other l) ≡ unchanged s
unfolding happens
replace_nowhere c s n other l h = where_not c s n (step.can_replace c s n other l) _ (no_and _ _ h)

-- ---- what a cluster makes of it ----

module _ (k : Cluster) (s : State) (p : Parts k s) (n other l : ℕ) (o : Outcome) where
  pub not_there : has_node (config_of k) n ≡ false → o.lines.items ≡ [] → o.sends ≡ [] → IsDone k k o (happens (config_of k) s (events.Replace n other l))
  not_there h ls ms = nothing_done k s o _ p (replace_nowhere (config_of k) s n other l h) ls ms

  pub replaced_done : (k' : Cluster) → k'.config ≡ k.config → past_of k' ≡ past_of k → k'.hosts ≡ k.hosts → k'.network ≡ k.network → k'.sequencers ≡ k.sequencers → k'.readers ≡ k.readers → k'.specs ≡ k.specs
      → has_node (config_of k) n ≡ true → Foresees k'.register (after_replace (config_of k) n (node_in s.nodes n) other l s.register)
      → o.lines.items ≡ swap_lines n l other (replaced (config_of k) n (node_in s.nodes n) other l s.register) → o.sends ≡ []
      → IsDone k k' o (happens (config_of k) s (events.Replace n other l))
  replaced_done k' e f hs w q r x h reg ls ms =
      let is = replace_is (config_of k) s n other l h in
      hosted_done k k' s s.nodes _ o _ p e f w q r x (subst (λ y. AreHosts k.config y s.nodes) (sym hs) p.nodes) reg (ap (λ (y : Done). y.state) is) (ls ∙ ap (λ (y : Done). y.lines) (sym is)) (ms ∙ ap (λ (y : Done). y.sends) (sym is))
