-- A node that serves, and its disk.
use Rattle.std.proofs.Common.{◌≡◌, ◌≤◌, ℕ, List, Option, sym, ap, ◌∙◌, subst}
use Rattle.ld_disk.specs.Moments.{LeavesOnly}
use Rattle.ld_disk.specs.declared.disk.Disk.{Ghosts}
use Rattle.ld_op.specs.declared.op.Op.{Op}
use Rattle.ld_op.specs.Plain.{Plain}
use Rattle.ld_op.specs.Cells.{read_plain}
use Rattle.ld_layout.specs.Layout.{Layout}
use Rattle.ld_segment.specs.Lies.{LiesAs, written}
use Rattle.ld_store.specs.Ops.{StandsFor}
use Rattle.ld_store.specs.Open.{told_plain}
use Rattle.ld_store.proofs.Holding.{images_stand}
use Rattle.ld_node.specs.declared.node.Node.{Node}
use Rattle.ld_node.specs.Changes.{IsPast}
use Rattle.ld_node.specs.Node.{index_of, plain_of, released_of, disk_of, layout_of, slots_of, Holds}
use Rattle.ld_serve.specs.Serving.{State, state_of, PastLimit}

abbrev pub the_state : Plain → List (ℕ × ℕ) → State
the_state p r = record { plain = p; released = r }

pub state_is : (p q : Plain) (r t : List (ℕ × ℕ)) → p ≡ q → r ≡ t → the_state p r ≡ the_state q t
state_is p q r t e f = ap (λ (x : Plain). the_state x r) e ∙ ap (λ (x : List (ℕ × ℕ)). the_state q x) f

-- where nothing changed in memory, and the disk tells the same
pub state_stays : {D : Type 0} {g : Ghosts D} (old new : Node D g) → g.seen (disk_of new) ≡ g.seen (disk_of old) → index_of new ≡ index_of old → released_of new ≡ released_of old → state_of old ≡ state_of new
state_stays old new same index released = state_is _ _ _ _ (λ i. told_plain (sym same i) (sym index i)) (sym released)

module _ {D : Type 0} {g : Ghosts D} (seen : D → Option (List ℕ)) (may_leave : D → List ℕ → Type 0) where
  -- what a crash leaves of a node that holds what its disk has
  pub stand : (node : Node D g) (p : Plain) → p ≡ plain_of node → Holds seen may_leave node → (c : List ℕ) → may_leave (disk_of node) c → StandsFor p c
  stand node p is holds c left = subst (λ q. StandsFor q c) (sym is) (images_stand seen may_leave node.store holds c left)

  -- a record that would pass the limit
  pub past_limit : (old new : Node D g) (op : Option Op) → state_of old ≡ state_of new → layout_of new ≡ layout_of old → Holds seen may_leave new → IsPast (layout_of old) op
      → PastLimit (may_leave (disk_of new)) (plain_of old) op
  past_limit old new op same layout still past = record {
    layout = layout_of new;
    slots = slots_of new;
    sound = still.sound;
    lies = λ c left. subst (λ b. LiesAs (written (layout_of new)) (layout_of new) (slots_of new) b) (sym (still.rests.stable c left)) still.lies;
    plain = λ c left. ap (λ s. s.plain) same ∙ still.plain ∙ ap (λ b. read_plain b (index_of new)) (sym (still.rests.stable c left));
    past = subst (λ y. IsPast y op) (sym layout) past;
  }

  -- one that would, of a node that holds
  pub past_there : (node : Node D g) (p : Plain) (y : Layout) (op : Option Op) → p ≡ plain_of node → y ≡ layout_of node → Holds seen may_leave node → IsPast y op → PastLimit (may_leave (disk_of node)) p op
  past_there node p y op same layout holds past = record {
    layout = layout_of node;
    slots = slots_of node;
    sound = holds.sound;
    lies = λ c left. subst (λ b. LiesAs (written (layout_of node)) (layout_of node) (slots_of node) b) (sym (holds.rests.stable c left)) holds.lies;
    plain = λ c left. same ∙ holds.plain ∙ ap (λ b. read_plain b (index_of node)) (sym (holds.rests.stable c left));
    past = subst (λ (z : Layout). IsPast z op) layout past;
  }

module _ {D : Type 0} (may_leave : D → List ℕ → Type 0) (moment : D → ℕ) (left_since : D → ℕ → List ℕ → Type 0) where
  -- what is left now is what a crash at some moment leaves
  pub left_now : ((disk : D) (t : ℕ) (c : List ℕ) → t ≤ moment disk → may_leave disk c → left_since disk t c) → (old new : D) (P : List ℕ → Type 0)
      → LeavesOnly moment left_since old new P → (c : List ℕ) → may_leave new c → P c
  left_now counts_now old new P leaves c left = leaves.each c (counts_now new (moment old) c leaves.later left)
