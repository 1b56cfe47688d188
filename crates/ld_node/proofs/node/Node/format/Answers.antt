use Rattle.std.proofs.Common.{◌≡◌, ◌⊎◌, inl, inr, ⊎_elim, subst}
use Rattle.ld_msg.specs.Register.{Register as Contents}
use Rattle.ld_register.specs.Calls.{IsFree}
use Rattle.ld_register.specs.declared.fault.RegisterFault.TheVariants as faults
use Rattle.ld_node.specs.Draws.{not_drawn}
use Rattle.ld_node.specs.Draws.{answered}
use Rattle.ld_node.specs.Node.{id_of, disk_of, layout_of, slots_of}
use Rattle.ld_register.specs.Calls.{drawn as drawn_by}
use Rattle.ld_register.proofs.Committing.{leaves_map}
use Rattle.ld_store.specs.Open.{disk_of as store_disk}
use Rattle.ld_node.proofs.Draws.{given_by, generations_end, room_ends}
use Rattle.ld_node.proofs.Quiet.{on_ok}
use Rattle.ld_node.proofs.Keeping.{formats_by}
use Rattle.ld_node.proofs.node.Node.format.Goals as goal

pub returns-in_err-drawn-clause-register_whole : goal.returns-in_err-drawn-clause-register_whole
returns-in_err-drawn-clause-register_whole g c fault is told =
    let draw = c.in_err-drawn.ensures in
    let given = c.in_err-drawn.field-0.0 in
    subst (λ f. IsFree (not_drawn f) ⊎ ((contents : Contents) × g.G.Register.holds c.args.reg.now contents)) (given_by c.from_residual.result given fault c.from_residual.ensures is) (draw.whole told)

pub returns-in_err-drawn-clause-generations : goal.returns-in_err-drawn-clause-generations
returns-in_err-drawn-clause-generations g c is told =
    let draw = c.in_err-drawn.ensures in
    let fault = c.in_err-drawn.field-0.0 in
    generations_end (g.G.Register.holds c.args.reg.now) (g.G.Register.holds c.draw.new.self) c.args.self.now.id fault (given_by c.from_residual.result fault faults.GenLimit c.from_residual.ensures is) (draw.whole told) draw.answers

pub returns-in_err-drawn-clause-register_full : goal.returns-in_err-drawn-clause-register_full
returns-in_err-drawn-clause-register_full g c is told =
    let draw = c.in_err-drawn.ensures in
    let fault = c.in_err-drawn.field-0.0 in
    room_ends (g.G.Register.holds c.args.reg.now) (g.G.Register.holds c.draw.new.self) c.args.self.now.id fault (given_by c.from_residual.result fault faults.Full c.from_residual.ensures is) (draw.whole told) draw.answers

-- ---- a format under what was drawn ----

pub returns-clause-settled : goal.returns-clause-settled
returns-clause-settled g c told = on_ok c.format_store-formatted.result _ (⊎_elim (λ no. absurd no) (λ settled. settled) (c.in_ok-drawn.ensures.settled told))

pub returns-clause-whole : goal.returns-clause-whole
returns-clause-whole g c told = on_ok c.format_store-formatted.result _ (⊎_elim (λ no. absurd no) (λ whole. whole) (c.in_ok-drawn.ensures.whole told))

pub returns-clause-any_moment : goal.returns-clause-any_moment
returns-clause-any_moment g c holds =
    let D = g.D.Disk in
    let node = c.args.self.now in
    let drawn = c.in_ok-drawn.drawn in
    leaves_map D.moment D.left_since (disk_of node) (store_disk c.format_store-formatted.new.store) _ _
    (λ left is. ⊎_elim (λ was. inl was) (λ now. inr (drawn, (λ contents held. ⊎_elim (λ no. absurd no) (λ told. told.0) (c.in_ok-drawn.ensures.answers contents held)), now)) is)
    (c.format_store-formatted.ensures.any_moment holds)

pub returns-clause-exact : goal.returns-clause-exact
returns-clause-exact g c contents disk holds tells told =
    let node = c.args.self.now in
    let drawn = c.in_ok-drawn.drawn in
    let is : answered drawn ≡ drawn_by contents (id_of node) = ⊎_elim (λ no. absurd (cc no.0)) (λ told. told.0) (c.in_ok-drawn.ensures.exact contents tells) in
    ⊎_elim (λ none. inl none) (λ keeps. inr (formats_by (layout_of node) (slots_of node) disk _ drawn _ c.format_store-formatted.result is keeps)) (c.format_store-formatted.ensures.exact disk holds told)
