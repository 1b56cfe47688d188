-- A node and its disk.
use Rattle.std.proofs.Common.{◌≡◌, ◌≤◌, ℕ, List, Option, sym, ap, ◌∙◌, subst}
use Rattle.ld_disk.specs.Moments.{LeavesOnly}
use Rattle.ld_disk.specs.declared.disk.Disk.{Ghosts}
use Rattle.ld_msg.specs.declared.msg.Msg.{Msg}
use Rattle.ld_op.specs.Plain.{Plain}
use Rattle.ld_layout.specs.Layout.{Layout}
use Rattle.ld_machine.specs.Disk as machine
use Rattle.ld_store.specs.Ops.{StandsFor}
use Rattle.ld_store.specs.Open.{told_plain}
use Rattle.ld_store.proofs.Holding.{images_stand}
use Rattle.ld_node.specs.declared.node.Node.{Node}
use Rattle.ld_node.specs.Node.{index_of, plain_of, disk_of, Holds}
use Rattle.ld_mend.specs.Course.{At}

abbrev pub the_at : Plain → List (ℕ × ℕ) → Layout → List Msg → Option (List (ℕ × machine.Node)) → At
the_at p r y a f = record { plain = p; released = r; layout = y; asked = a; far = f }

pub at_is : (p q : Plain) (r t : List (ℕ × ℕ)) (y z : Layout) (a b : List Msg) (f : Option (List (ℕ × machine.Node))) → p ≡ q → r ≡ t → y ≡ z → a ≡ b → the_at p r y a f ≡ the_at q t z b f
at_is p q r t y z a b f e h k l =
    ap (λ (x : Plain). the_at x r y a f) e ∙ (ap (λ (x : List (ℕ × ℕ)). the_at q x y a f) h ∙ (ap (λ (x : Layout). the_at q t x a f) k ∙ ap (λ (x : List Msg). the_at q t z x f) l))

pub plain_stays : {D : Type 0} {g : Ghosts D} (old new : Node D g) → g.seen (disk_of new) ≡ g.seen (disk_of old) → index_of new ≡ index_of old → plain_of new ≡ plain_of old
plain_stays old new same index = λ i. told_plain (same i) (index i)

module _ {D : Type 0} {g : Ghosts D} (seen : D → Option (List ℕ)) (may_leave : D → List ℕ → Type 0) where
  -- what a crash leaves of a node that holds what its disk has
  pub stand : (node : Node D g) (p : Plain) → p ≡ plain_of node → Holds seen may_leave node → (c : List ℕ) → may_leave (disk_of node) c → StandsFor p c
  stand node p is holds c left = subst (λ q. StandsFor q c) (sym is) (images_stand seen may_leave node.store holds c left)

module _ {D : Type 0} (may_leave : D → List ℕ → Type 0) (moment : D → ℕ) (left_since : D → ℕ → List ℕ → Type 0) where
  -- what is left now is what a crash at some moment leaves
  pub left_now : ((disk : D) (t : ℕ) (c : List ℕ) → t ≤ moment disk → may_leave disk c → left_since disk t c) → (old new : D) (P : List ℕ → Type 0)
      → LeavesOnly moment left_since old new P → (c : List ℕ) → may_leave new c → P c
  left_now counts_now old new P leaves c left = leaves.each c (counts_now new (moment old) c leaves.later left)
