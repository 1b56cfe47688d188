-- A message to a node of the machine, as what its host does.
use Rattle.std.proofs.Common.{◌≡◌, ℕ, Bool, true, false, ◌&&◌, List, [], ◌∷◌, Option, Some, None, refl, ap, ◌∙◌, arith, nat_cmp, Ordering, Less, Equal, Greater, if◌then◌else◌}
use Rattle.std.specs.Option.{unwrap_or}
use Rattle.std.specs.BTreeMap.{insert_entry}
use Rattle.std.specs.Ordering.{match_ordering}
use Rattle.std.proofs.lemmas.Bool.Decides.{nat_tests}
use Rattle.ld_table.specs.Table.{put}
use Rattle.ld_table.proofs.Laws.{find-put_same}
use Rattle.ld_config.specs.declared.config.Config.{Config}
use Rattle.ld_msg.specs.declared.msg.Msg.{Msg}
use Rattle.ld_msg.specs.declared.msg.Body.{Body}
use Rattle.ld_op.specs.declared.op.Op.{Op}
use Rattle.ld_op.specs.Handles.{answer_message}
use Rattle.ld_machine.specs.Config.{has_log}
use Rattle.ld_machine.specs.Disk.{Node, Status, Blank, Up, Down, Failed, new_node, is_up, keep_op, keep_end}
use Rattle.ld_machine.specs.State.{State, Done, node_at, with_node}
use Rattle.ld_machine.specs.Step as step
use Rattle.ld_machine.specs.Step.{kept_lines, is_written}
use Rattle.ld_host.specs.Done.{op_done, message_done, node_in}

-- ---- nodes that are put in their places ----

pub if_yes : (b : Bool) (d e : Done) → b ≡ true → (if b then d else e) ≡ d
if_yes true d e h = refl
if_yes false d e h = absurd cc

pub if_not : (b : Bool) (d e : Done) → b ≡ false → (if b then d else e) ≡ e
if_not true d e h = absurd cc
if_not false d e h = refl

pub at_put : (s : State) (n : ℕ) (x : Node) → node_at (with_node s n x) n ≡ x
at_put s n x = ap (λ o. unwrap_or o new_node) (find-put_same n n x s.nodes refl)

cmp_self : (k : ℕ) → nat_cmp k k ≡ Equal
cmp_self k = grind (arith, nat_tests)

module _ {X : Type 0} where
  put_twice_step : (o : Ordering) (k : ℕ) (v w : X) (e : ℕ × X) (m : List (ℕ × X)) → nat_cmp k e.0 ≡ o → insert_entry nat_cmp (insert_entry nat_cmp m k v) k w ≡ insert_entry nat_cmp m k w
      → insert_entry nat_cmp (match_ordering o ((k, v) ∷ e ∷ m) ((e.0, v) ∷ m) (e ∷ insert_entry nat_cmp m k v)) k w ≡ match_ordering o ((k, w) ∷ e ∷ m) ((e.0, w) ∷ m) (e ∷ insert_entry nat_cmp m k w)
  put_twice_step Less k v w e m h ih = rw (cmp_self k) refl
  put_twice_step Equal k v w e m h ih = rw h refl
  put_twice_step Greater k v w e m h ih = rw h (ap (λ l. e ∷ l) ih)

  pub put-put : (k : ℕ) (v w : X) (m : List (ℕ × X)) → put k w (put k v m) ≡ put k w m
  unfolding put
  put-put k v w [] = rw (cmp_self k) refl
  put-put k v w (e ∷ m) = put_twice_step (nat_cmp k e.0) k v w e m refl (put-put k v w m)

-- ---- what the message does ----

handles_as : (s : State) (n : ℕ) (x : Node) (m : Msg) (o : Option Op) (b : Option Body) → step.handles (with_node s n x) n m o b
    ≡ record { state = with_node s n (op_done x o (answer_message n m b)).node; lines = kept_lines n [] (op_done x o (answer_message n m b)).end; sends = (op_done x o (answer_message n m b)).sends }
handles_as s n x m None b = refl
handles_as s n x m (Some o) b =
    ap (λ y. record { state = with_node (with_node s n x) n (keep_op y o); lines = kept_lines n [] (keep_end y o); sends = if is_written (keep_end y o) then answer_message n m b else [] }) (at_put s n x)
    ∙ ap (λ m'. record { state = record s { nodes = m' }; lines = kept_lines n [] (keep_end x o); sends = if is_written (keep_end x o) then answer_message n m b else [] }) (put-put n x (keep_op x o) s.nodes)

pub node_up : (c : Config) (s : State) (n : ℕ) (m : Msg) → (is_up (node_at s n).status && has_log c m.log) ≡ true
    → step.to_node c s n m ≡ record { state = with_node s n (message_done n (node_in s.nodes n) m).node; lines = kept_lines n [] (message_done n (node_in s.nodes n) m).end; sends = (message_done n (node_in s.nodes n) m).sends }
node_up c s n m h = if_yes _ _ _ h ∙ handles_as s n (step.releases (node_at s n) m.log m.body) m (step.node_handles n (node_at s n) m).op (step.node_handles n (node_at s n) m).answer

pub up_is : (x : Status) → is_up x ≡ true → x ≡ Up
up_is Up h = refl
up_is Blank h = absurd cc
up_is Down h = absurd cc
up_is Failed h = absurd cc
