-- In every state a node with a plain state that is lost for an epoch of a log stands lost for it in the lines.
use Rattle.std.proofs.Common.{◌≡◌, ◌∙◌, ◌≤◌, ◌<◌, ℕ, inl, inr, refl, ap, sym, subst, Bool, true, false, ◌&&◌, ◌==◌, cond, List, [], ◌∷◌, ◌++◌, append-nil, Option, Some, None, arith}
use Rattle.std.specs.Option.{unwrap_or}
use Rattle.std.proofs.lemmas.Bool.{eq-eqb, eqb-true, le-leb}
use Rattle.ld_table.specs.Table.{find}
use Rattle.ld_table.proofs.Laws.{put_cases, find-put_same}
use Rattle.ld_ids.specs.declared.set.Spec.{Spec}
use Rattle.ld_config.specs.declared.config.Config.{Config}
use Rattle.ld_transcript.specs.declared.line.Line.{Line}
use Rattle.ld_transcript.specs.declared.line.Line.TheVariants as lines
use Rattle.ld_msg.specs.declared.msg.Msg.{Msg}
use Rattle.ld_msg.specs.declared.msg.Body.{Body}
use Rattle.ld_msg.specs.declared.msg.Body.TheVariants as bodies
use Rattle.ld_op.specs.declared.op.Op.{Op}
use Rattle.ld_op.specs.declared.op.Op.TheVariants as ops
use Rattle.ld_op.specs.Plain.{Plain, log_of, is_lost, apply}
use Rattle.ld_op.specs.Ticks.{Ticked, Cleans, Rebuilt, Asks, Nothing}
use Rattle.ld_msg.specs.Register.{Register, Granted, draw, generation_of, no_epochs, epochs_of, epochs_in}
use Rattle.ld_msg.specs.Sequencer.{called, on_reply}
use Rattle.ld_machine.specs.Config.{looks_at, has_log}
use Rattle.ld_machine.specs.Disk.{Node, new_node, keep_op, keep_end, load, load_end, Kept, Written, DiskFailed, Crashed, JournalFull, is_up, is_blank}
use Rattle.ld_machine.specs.State.{State, Done, finish, node_at, with_node, with_register, with_line}
use Rattle.ld_machine.specs.Facts.{Happened, Standing, Lost, Sound, lost_to, formatted_as, standing_after, standing_in, standing, stands_for}
use Rattle.ld_machine.specs.World.{In}
use Rattle.ld_machine.specs.Step as Step
use Rattle.ld_safety.proofs.Lists.{not_none, not_both, In-append}
use Rattle.ld_safety.proofs.Rising.{Rising}
use Rattle.ld_safety.proofs.Lines.{Group, OfNodes, OfActs, OfItems, group, AllOf, acted_of, items_of}
use Rattle.ld_safety.proofs.Steps.{is_plain, In_finish, told}
use Rattle.ld_safety.proofs.Events.{retry_call, announced, Cases, is_quiet, refreshed, loaded}
use Rattle.ld_safety.proofs.RegisterSteps.{draw_granted}
use Rattle.ld_safety.proofs.HoldSteps.{handled_plain, same_generation}
use Rattle.ld_safety.proofs.Sends.{written}
use Rattle.ld_safety.proofs.LostNodes.{drawn_above}
use Rattle.ld_safety.proofs.LostStanding.{Stands, Still, moves, standing_grows, stays_in, new_stands, op_stands, format_stands, load_stands, load_whole, keep_status, keep_up, not_lost_after, formatted_lost, lines_told}
use Rattle.ld_machine.specs.Calm.{Move}

-- ---- lines that say nothing of it ----
other_group : (x : Line) → (group x ≡ OfNodes → ⊥) → moves x ≡ false
other_group (lines.NodeWiped m) h = absurd (h refl)
other_group (lines.NodeRebuilt m k) h = absurd (h refl)
other_group (lines.NodeFormatted m g) h = absurd (h refl)
other_group _ h = refl

still_group : (g : Group) (ls : List Line) → (g ≡ OfNodes → ⊥) → AllOf g ls → Still ls
still_group g ls n a x i = other_group x (λ h. n (sym (a x i) ∙ h))

still_quiet : (x : Line) → is_quiet x ≡ true → moves x ≡ false
still_quiet (lines.NodeWiped m) h = absurd cc
still_quiet (lines.NodeRebuilt m k) h = absurd cc
still_quiet (lines.NodeFormatted m g) h = absurd cc
still_quiet _ h = refl

still_plain : (x : Line) → is_plain x ≡ true → moves x ≡ false
still_plain (lines.NodeWiped m) h = absurd cc
still_plain (lines.NodeRebuilt m k) h = absurd cc
still_plain (lines.NodeFormatted m g) h = absurd cc
still_plain _ h = refl

still_one : (x : Line) → moves x ≡ false → Still (x ∷ [])
still_one x h y (inl e) = subst (λ z. moves z ≡ false) (sym e) h
still_one x h y (inr i) = absurd i

still_none : Still []
still_none x i = absurd i

still_kept : (n : ℕ) (k : Kept) → Still (Step.kept_lines n [] k)
still_kept n Written = still_none
still_kept n DiskFailed = still_one (lines.NodeFailed n) refl
still_kept n Crashed = still_one (lines.NodeDown n) refl
still_kept n JournalFull = still_one (lines.NodeFull n) refl

still_lost : (n : ℕ) (r : Register) (ps : List Spec) → Still (Step.lost_lines n r ps)
still_lost n r [] x i = absurd i
still_lost n r (p ∷ ps) x i = elim (In-append x (Step.lost_line n (epochs_of r p.log).epoch p) (Step.lost_lines n r ps) i) [ inl a ↦ one _ a | inr a ↦ still_lost n r ps x a ] where
  one : (b : Bool) → In x (cond b (lines.NodeLost n p.log (epochs_of r p.log).epoch ∷ []) []) → moves x ≡ false
  one true j = still_one (lines.NodeLost n p.log (epochs_of r p.log).epoch) refl x j
  one false j = absurd j

still_finished : (d : Done) → Still d.lines → Still (finish d).lines
still_finished d h x i = elim (In_finish d x i) [ inl a ↦ h x a | inr a ↦ still_plain x a ]

wiped_lines : (s : State) (x : Line) → (finish (with_line s x)).lines ≡ x ∷ []
unfolding finish
wiped_lines s x = refl

kept_lines_are : (s t : State) (n : ℕ) (o : Op) (x : Line) (ls : List Line) (k : Kept) → (finish (record { state = t; lines = Step.kept_lines n (x ∷ ls) k; sends = cond (Step.is_written k) [] [] })).lines ≡ Step.kept_lines n (x ∷ ls) k
unfolding finish
kept_lines_are s t n o x ls Written = ap (λ y. x ∷ y) (append-nil ls)
kept_lines_are s t n o x ls DiskFailed = refl
kept_lines_are s t n o x ls Crashed = refl
kept_lines_are s t n o x ls JournalFull = refl

-- only logs of the configuration have epochs
abbrev pub OnlyLogs : Config → Register → Type 0
OnlyLogs c r = (l : ℕ) → 0 < (epochs_of r l).epoch → has_log c l ≡ true

module _ (c : Config) (hs : List Happened) (s : State) (e : Move) where
  abbrev st : ℕ → ℕ → Standing
  st n l = standing n l hs Lost

  abbrev All : State → Type 0
  All t = (n l : ℕ) → Stands (standing n l hs Lost) l (node_at t n)

  abbrev Result : Done → Type 0
  Result d = (n l : ℕ) → Stands (standing n l (hs ++ told s.register e d ∷ []) Lost) l (node_at d.state n)

  quietly : (d : Done) → Still d.lines → All d.state → Result d
  quietly d h a n l = subst (λ z. Stands z l (node_at d.state n)) (sym (standing_grows n l hs (told s.register e d) Lost ∙ stays_in n l (finish d).lines (standing n l hs Lost) (still_finished d h))) (a n l)

  -- by the event's lines
  by_lines : (d : Done) (ls : List Line) → (finish d).lines ≡ ls → ((n l : ℕ) → Stands (standing_in n l ls (standing n l hs Lost)) l (node_at d.state n)) → Result d
  by_lines d ls q a n l = subst (λ z. Stands z l (node_at d.state n)) (sym (standing_grows n l hs (told s.register e d) Lost ∙ ap (λ k. standing_in n l k (standing n l hs Lost)) q)) (a n l)

  put_stands : (t : State) (n : ℕ) (x : Node) → ((l : ℕ) → Stands (standing n l hs Lost) l x) → All t → All (with_node t n x)
  put_stands t n x h a y l = elim (put_cases y n x t.nodes) [
    | inl q ↦ subst (λ (o : Option Node). Stands (standing y l hs Lost) l (unwrap_or o new_node)) (sym q.1) (subst (λ k. Stands (standing k l hs Lost) l x) (sym q.0) (h l))
    | inr q ↦ subst (λ (o : Option Node). Stands (standing y l hs Lost) l (unwrap_or o new_node)) (sym q.1) (a y l)
  ]

  node_here : (t : State) (n : ℕ) (x : Node) → node_at (with_node t n x) n ≡ x
  node_here t n x = ap (λ (o : Option Node). unwrap_or o new_node) (find-put_same n n x t.nodes refl)

  module _ (A : All s) (L : Rising s.register.logs × OnlyLogs c s.register) where
    load_all : (n : ℕ) → All (loaded s n)
    load_all n = put_stands s n (load (node_at s n)) (λ l. load_stands _ l (node_at s n) (A n l)) A

    released : (n : ℕ) (k : ℕ) (b : Body) (l : ℕ) (st : Standing) → Stands st l (node_at s n) → Stands st l (Step.releases (node_at s n) k b)
    released n k (bodies.Release y) l st S = record { blank = S.blank; lost = S.lost; idle = S.idle; up = S.up }
    released n k _ l st S = S

    released_up : (n k : ℕ) (b : Body) → is_up (node_at s n).status ≡ true → is_up (Step.releases (node_at s n) k b).status ≡ true
    released_up n k (bodies.Release y) u = u
    released_up n k _ u = u

    handled : (f : List ℕ) (n : ℕ) (m : Msg) (o : Option Op) (b : Option Body) → is_up (node_at s n).status ≡ true → (Step.node_handles n (node_at s n) m).op ≡ o → Result (Step.handles (with_node (refreshed s f) n (Step.releases (node_at s n) m.log m.body)) n m o b)
    handled f n m None b u q = quietly (Step.handles (with_node (refreshed s f) n (Step.releases (node_at s n) m.log m.body)) n m None b) still_none (put_stands (refreshed s f) n (Step.releases (node_at s n) m.log m.body) (λ l. released n m.log m.body l _ (A n l)) A)
    handled f n m (Some o) b u q = let x : Node = Step.releases (node_at s n) m.log m.body in let t : State = with_node (refreshed s f) n x in let h : All t = put_stands (refreshed s f) n x (λ l. released n m.log m.body l _ (A n l)) A in
        quietly (Step.handles t n m (Some o) b) (still_kept n (keep_end (node_at t n) o)) (put_stands t n (keep_op (node_at t n) o) (λ l. subst (λ z. Stands (standing n l hs Lost) l (keep_op z o)) (sym (node_here (refreshed s f) n x))
        (op_stands _ l x o (handled_plain _ _ _ _ _ _ m.body o q) (released_up n m.log m.body u) (released n m.log m.body l _ (A n l)))) h)

    -- ---- a rebuild ----
    rebuilt_stands : (x : Node) (l : ℕ) (st : Standing) → is_up x.status ≡ true → Stands st l x → keep_end x (ops.Refilled l) ≡ Written → Stands Sound l (keep_op x (ops.Refilled l))
    rebuilt_stands x l st u S q = let w = written x (ops.Refilled l) q in let z = S.up u in record {
      blank = λ p h g. absurd (elim h [ inl a ↦ no_blank p (a ∙ w.0) g | inr a ↦ not_none (sym (w.1 ∙ z.0) ∙ a.1) ]);
      lost = λ p k h g. absurd (elim h [ inl a ↦ not_lost_after x.plain l k (subst (λ v. is_lost (log_of v l) k ≡ true) (a ∙ w.0) g) | inr a ↦ not_none (sym (w.1 ∙ z.0) ∙ a.1) ]);
      idle = λ h. absurd (not_both _ h (keep_status x (ops.Refilled l)));
      up = keep_up x (ops.Refilled l) (z.0, let g = same_generation x.plain (ops.Refilled l) refl in let k = z.1 in omega arith);
    } where
      no_blank : (p : Plain) → p ≡ apply x.plain (ops.Refilled l) → p.generation ≡ 0 → ⊥
      no_blank p a g = let y = same_generation x.plain (ops.Refilled l) refl in let k = (S.up u).1 in let v : p.generation ≡ (apply x.plain (ops.Refilled l)).generation = ap (λ (z : Plain). z.generation) a in omega arith

    rebuilt_at : (n l : ℕ) (k : Kept) → is_up (node_at s n).status ≡ true → keep_end (node_at s n) (ops.Refilled l) ≡ k
        → (y j : ℕ) → Stands (standing_in y j (Step.kept_lines n (lines.NodeRebuilt n l ∷ []) k) (standing y j hs Lost)) j (node_at (with_node s n (keep_op (node_at s n) (ops.Refilled l))) y)
    rebuilt_at n l Written u q y j = elim (put_cases y n (keep_op (node_at s n) (ops.Refilled l)) s.nodes) [
      | inl a ↦ subst (λ (o : Option Node). Stands (standing_in y j (lines.NodeRebuilt n l ∷ []) (standing y j hs Lost)) j (unwrap_or o new_node)) (sym a.1)
          (subst (λ k. Stands (standing_in k j (lines.NodeRebuilt n l ∷ []) (standing k j hs Lost)) j (keep_op (node_at s n) (ops.Refilled l))) (sym a.0) (here (l == j) refl))
      | inr a ↦ subst (λ (o : Option Node). Stands (standing_in y j (lines.NodeRebuilt n l ∷ []) (standing y j hs Lost)) j (unwrap_or o new_node)) (sym a.1) (elsewhere a.0 (n == y) refl)
    ] where
      here : (b : Bool) → (l == j) ≡ b → Stands (cond ((n == n) && (l == j)) Sound (standing n j hs Lost)) j (keep_op (node_at s n) (ops.Refilled l))
      here true z = subst (λ b. Stands (cond b Sound (standing n j hs Lost)) j (keep_op (node_at s n) (ops.Refilled l))) (sym (ap (λ b. b && (l == j)) (eq-eqb n n refl) ∙ z))
          (subst (λ k. Stands Sound k (keep_op (node_at s n) (ops.Refilled l))) (eqb-true l j z) (rebuilt_stands (node_at s n) l _ u (subst (λ k. Stands (standing n j hs Lost) k (node_at s n)) (sym (eqb-true l j z)) (A n j)) q))
      here false z = subst (λ b. Stands (cond b Sound (standing n j hs Lost)) j (keep_op (node_at s n) (ops.Refilled l))) (sym (ap (λ b. b && (l == j)) (eq-eqb n n refl) ∙ z)) (op_stands _ j (node_at s n) (ops.Refilled l) refl u (A n j))

      elsewhere : (y ≡ n → ⊥) → (b : Bool) → (n == y) ≡ b → Stands (cond ((n == y) && (l == j)) Sound (standing y j hs Lost)) j (node_at s y)
      elsewhere h true z = absurd (h (sym (eqb-true n y z)))
      elsewhere h false z = subst (λ b. Stands (cond (b && (l == j)) Sound (standing y j hs Lost)) j (node_at s y)) (sym z) (A y j)
    rebuilt_at n l DiskFailed u q y j = put_stands s n (keep_op (node_at s n) (ops.Refilled l)) (λ k. op_stands _ k (node_at s n) (ops.Refilled l) refl u (A n k)) A y j
    rebuilt_at n l Crashed u q y j = put_stands s n (keep_op (node_at s n) (ops.Refilled l)) (λ k. op_stands _ k (node_at s n) (ops.Refilled l) refl u (A n k)) A y j
    rebuilt_at n l JournalFull u q y j = put_stands s n (keep_op (node_at s n) (ops.Refilled l)) (λ k. op_stands _ k (node_at s n) (ops.Refilled l) refl u (A n k)) A y j

    pub ticked : (n l : ℕ) (t : Ticked) → is_up (node_at s n).status ≡ true → Result (Step.ticks_as c s n l t)
    ticked n l (Cleans k y) u = quietly (Step.ticks_as c s n l (Cleans k y)) (still_kept n (keep_end (node_at s n) (ops.Clean l k y))) (put_stands s n (keep_op (node_at s n) (ops.Clean l k y)) (λ j. op_stands _ j (node_at s n) (ops.Clean l k y) refl u (A n j)) A)
    ticked n l Rebuilt u = by_lines (Step.ticks_as c s n l Rebuilt) _ (kept_lines_are s (with_node s n (keep_op (node_at s n) (ops.Refilled l))) n (ops.Refilled l) (lines.NodeRebuilt n l) [] (keep_end (node_at s n) (ops.Refilled l))) (rebuilt_at n l (keep_end (node_at s n) (ops.Refilled l)) u refl)
    ticked n l (Asks from) u = quietly (Step.ticks_as c s n l (Asks from)) still_none A
    ticked n l Nothing u = quietly (Step.ticks_as c s n l Nothing) still_none A

    pub wiped : (n : ℕ) → Result (with_line (with_node s n new_node) (lines.NodeWiped n))
    wiped n = by_lines (with_line (with_node s n new_node) (lines.NodeWiped n)) (lines.NodeWiped n ∷ []) (wiped_lines (with_node s n new_node) (lines.NodeWiped n)) (λ y l. elim (put_cases y n new_node s.nodes) [
      | inl a ↦ subst (λ (o : Option Node). Stands (cond (n == y) Lost (standing y l hs Lost)) l (unwrap_or o new_node)) (sym a.1) (subst (λ b. Stands (cond b Lost (standing y l hs Lost)) l new_node) (sym (eq-eqb n y (sym a.0))) (new_stands l))
      | inr a ↦ subst (λ (o : Option Node). Stands (cond (n == y) Lost (standing y l hs Lost)) l (unwrap_or o new_node)) (sym a.1) (other y l a.0 (n == y) refl)
    ]) where
      other : (y l : ℕ) → (y ≡ n → ⊥) → (b : Bool) → (n == y) ≡ b → Stands (cond (n == y) Lost (standing y l hs Lost)) l (node_at s y)
      other y l h true z = absurd (h (sym (eqb-true n y z)))
      other y l h false z = subst (λ b. Stands (cond b Lost (standing y l hs Lost)) l (node_at s y)) (sym z) (A y l)

    -- ---- a format ----
    module _ (n : ℕ) (r : Register) (B : is_blank (node_at s n).status ≡ true) (w : load_end (node_at s n) ≡ Written) (D : draw s.register n ≡ record { register = r; answer = Granted }) where
      fresh_whole : (node_at (loaded s n) n).cut ≡ None
      fresh_whole = ap (λ (x : Node). x.cut) (node_here s n (load (node_at s n))) ∙ load_whole (node_at s n) w

      drawn : 0 < generation_of r n
      drawn = let z = drawn_above s.register n r D in omega arith

      all_lost : (l : ℕ) → standing n l hs Lost ≡ Lost
      all_lost l = (A n l).blank (node_at s n).plain (inl refl) ((A n l).idle B).0

      -- with a record that was cut short
      format_cut : (y j : ℕ) → Stands (standing y j hs Lost) j (node_at (with_node (loaded s n) n (keep_op (node_at (loaded s n) n) (ops.Format (generation_of r n) (epochs_in r.logs)))) y)
      unfolding apply
      format_cut = put_stands (loaded s n) n (keep_op (node_at (loaded s n) n) (ops.Format (generation_of r n) (epochs_in r.logs))) (λ l. let q = all_lost l in subst (λ z. Stands z l (keep_op (node_at (loaded s n) n) (ops.Format (generation_of r n) (epochs_in r.logs)))) (sym q)
          (format_stands l (node_at (loaded s n) n) (ops.Format (generation_of r n) (epochs_in r.logs)) fresh_whole drawn (subst (λ z. Stands z l (node_at (loaded s n) n)) q (load_all n n l)))) (load_all n)

      -- and written
      with_log : (l : ℕ) → 0 < (epochs_of r l).epoch → has_log c l ≡ true
      with_log l h = L.1 l (subst (λ m. 0 < (unwrap_or (find l m) no_epochs).epoch) (draw_granted s.register n r D).0 h)

      as_told : (l : ℕ) → (k : ℕ) → (0 < (epochs_of r l).epoch) × (k ≤ (epochs_of r l).epoch) → stands_for k (formatted_as (lost_to n l (Step.lost_lines n r c.logs))) ≡ true
      as_told l k h = subst (λ o. stands_for k (formatted_as o) ≡ true) (sym (lines_told n l r c.logs (with_log l h.0) h.0)) (le-leb k (epochs_of r l).epoch h.1)

      format_here : (l : ℕ) → keep_end (node_at (loaded s n) n) (ops.Format (generation_of r n) (epochs_in r.logs)) ≡ Written
          → Stands (formatted_as (lost_to n l (Step.lost_lines n r c.logs))) l (keep_op (node_at (loaded s n) n) (ops.Format (generation_of r n) (epochs_in r.logs)))
      unfolding apply
      format_here l q = let x = node_at (loaded s n) n in let o = ops.Format (generation_of r n) (epochs_in r.logs) in let v = written x o q in record {
        blank = λ p h g. absurd (elim h [ inl a ↦ (let z = drawn in let u : p.generation ≡ generation_of r n = ap (λ (y : Plain). y.generation) (a ∙ v.0) in omega arith) | inr a ↦ not_none (sym (v.1 ∙ fresh_whole) ∙ a.1) ]);
        lost = λ p k h g. elim h [
          | inl a ↦ as_told l k (formatted_lost r (generation_of r n) l k (subst Rising (sym (draw_granted s.register n r D).0) L.0) (subst (λ y. is_lost (log_of y l) k ≡ true) (a ∙ v.0) g))
          | inr a ↦ absurd (not_none (sym (v.1 ∙ fresh_whole) ∙ a.1))
        ];
        idle = λ h. absurd (not_both _ h (keep_status x o));
        up = keep_up x o (fresh_whole, drawn);
      }

      format_at : (k : Kept) → keep_end (node_at (loaded s n) n) (ops.Format (generation_of r n) (epochs_in r.logs)) ≡ k → (y j : ℕ)
          → Stands (standing_in y j (Step.kept_lines n (Step.format_lines c n r) k) (standing y j hs Lost)) j (node_at (with_node (loaded s n) n (keep_op (node_at (loaded s n) n) (ops.Format (generation_of r n) (epochs_in r.logs)))) y)
      format_at DiskFailed q y j = format_cut y j
      format_at Crashed q y j = format_cut y j
      format_at JournalFull q y j = format_cut y j
      format_at Written q y j =
          let o = ops.Format (generation_of r n) (epochs_in r.logs) in
          let x = keep_op (node_at (loaded s n) n) o in
          let after = Step.lost_lines n r c.logs in
          subst (λ z. Stands z j (node_at (with_node (loaded s n) n x) y)) (sym (stays_in y j (Step.lost_lines n r c.logs) (standing_after y j (lines.NodeFormatted n (generation_of r n)) (Step.lost_lines n r c.logs) (standing y j hs Lost)) (still_lost n r c.logs))) (elim (put_cases y n x (loaded s n).nodes) [
            | inl a ↦ subst (λ (z : Option Node). Stands (cond (n == y) (formatted_as (lost_to y j after)) (standing y j hs Lost)) j (unwrap_or z new_node)) (sym a.1)
                (subst (λ b. Stands (cond b (formatted_as (lost_to y j after)) (standing y j hs Lost)) j x) (sym (eq-eqb n y (sym a.0))) (subst (λ k. Stands (formatted_as (lost_to k j after)) j x) (sym a.0) (format_here j q)))
            | inr a ↦ subst (λ (z : Option Node). Stands (cond (n == y) (formatted_as (lost_to y j after)) (standing y j hs Lost)) j (unwrap_or z new_node)) (sym a.1) (other a.0 (n == y) refl)
          ]) where
            other : (y ≡ n → ⊥) → (b : Bool) → (n == y) ≡ b → Stands (cond (n == y) (formatted_as (lost_to y j (Step.lost_lines n r c.logs))) (standing y j hs Lost)) j (node_at (loaded s n) y)
            other h true z = absurd (h (sym (eqb-true n y z)))
            other h false z = subst (λ b. Stands (cond b (formatted_as (lost_to y j (Step.lost_lines n r c.logs))) (standing y j hs Lost)) j (node_at (loaded s n) y)) (sym z) (load_all n y j)

      pub formatted : Result (Step.keeps_op (with_register (loaded s n) r) n (ops.Format (generation_of r n) (epochs_in r.logs)) (Step.format_lines c n r) [])
      formatted = let o = ops.Format (generation_of r n) (epochs_in r.logs) in let x = node_at (loaded s n) n in
          by_lines (Step.keeps_op (with_register (loaded s n) r) n o (Step.format_lines c n r) []) (Step.kept_lines n (Step.format_lines c n r) (keep_end x o))
          (kept_lines_are s (with_node (with_register (loaded s n) r) n (keep_op x o)) n o (lines.NodeFormatted n (generation_of r n)) (Step.lost_lines n r c.logs) (keep_end x o)) (format_at (keep_end x o) refl)

    stopped_all : (n : ℕ) → All (with_node s n (Step.stopped (node_at s n)))
    stopped_all n = put_stands s n (Step.stopped (node_at s n)) (λ l. let S = A n l in record { blank = S.blank; lost = S.lost; idle = λ h. absurd cc; up = λ h. absurd cc }) A

    pub stands_cases : Cases c s e (λ d m. Result d)
    stands_cases = record {
      still = λ f older i. quietly _ still_none A;
      says = λ x q. quietly _ (still_one x (still_quiet x q)) A;
      node_hears = λ f older n m i t v o. handled f n m (Step.node_handles n (node_at s n) m).op (Step.node_handles n (node_at s n) m).answer v.up refl;
      loads = λ n ls q b o. quietly _ (λ x i. still_quiet x (q x i)) (load_all n);
      draw_fails = λ n b. quietly _ (still_one (lines.NodeRefusedRegister n) refl) (load_all n);
      formats = λ n r g b v i. formatted n r b v i;
      ticks = λ n l t v i o. ticked n l t v.up;
      stops = λ n b. quietly _ (still_one (lines.NodeDown n) refl) (stopped_all n);
      wipes = λ n. wiped n;
      faults = λ n f o. quietly _ still_none (put_stands s n (Step.with_fault (node_at s n) f) (λ l. let S = A n l in record { blank = S.blank; lost = S.lost; idle = S.idle; up = S.up }) A);
      sets = λ l r x set h. quietly _ (still_one (lines.Set l r x set) refl) A;
      arms = λ k done o. quietly _ still_none A;
      hears = λ f older name q m i t l v o. quietly _ (still_group OfActs _ (λ h. cc) (acted_of name q (called (looks_at c s.register q.log) s.register (on_reply (looks_at c s.register q.log) q (Step.sender_node m.from) m.body) (on_reply (looks_at c s.register q.log) q (Step.sender_node m.from) m.body).tries).acts)) A;
      retries = λ again name q v o. quietly _ (still_group OfActs _ (λ h. cc) (acted_of name q (announced again (retry_call c s q)).acts)) A;
      appends = λ name q p v a i. quietly _ (still_one (lines.Appended name _) refl) A;
      trims = λ name q t v b. quietly _ (still_one (lines.Trimmed name t) refl) A;
      drops = λ name q v o. quietly _ still_none A;
      activates = λ name l r g n i x. quietly _ (still_one (lines.Active name _) refl) A;
      swaps = λ n m l x r q i. quietly _ (still_one x (still_quiet x q)) A;
      activate_fails = λ name l x g q. quietly _ (still_one x (still_quiet x q)) A;
      answers = λ f older name d m i t v o. quietly _ (still_group OfItems _ (λ h. cc) (items_of _ name _ _)) A;
      polls = λ name d v o. quietly _ still_none A;
      opens = λ style name l from until o x. quietly _ still_none A;
    }
