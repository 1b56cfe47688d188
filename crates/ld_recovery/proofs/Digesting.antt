-- Pages that are not taken.
use Rattle.std.proofs.Common.{◌≡◌, ℕ, max, map, Bool, true, false, ◌||◌, List, [], ◌∷◌, if◌then◌else◌, refl, ap, sym, ◌∙◌}
use Rattle.ld_msg.specs.declared.msg.Entry.{Entry}
use Rattle.ld_msg.specs.Digest.{Told, with_page, takes_page, told_page, digest_lng}
use Rattle.ld_msg.specs.Sequencer as sequencer
use Rattle.ld_msg.specs.Sequencer.{takes_any}
use Rattle.ld_digest.specs.Gathering.{Gathering}
use Rattle.ld_recovery.specs.declared.stage.Stage.TheVariants.{Seals}
use Rattle.ld_recovery.specs.Stages.{paged, page_stage, gathered}

neither : (a b : Bool) → (a || b) ≡ false → (a ≡ false) × (b ≡ false)
neither true b h = absurd cc
neither false b h = (refl, h)

page_left : (e good y from upto trim lng : ℕ) (es : List Entry) (d : List Told) → takes_any y from d ≡ false → map (λ t. if takes_page y from t then told_page e good upto trim lng es t else t) d ≡ d
page_left e good y from upto trim lng es [] h = refl
page_left e good y from upto trim lng es (t ∷ d) h =
    let n = neither (takes_page y from t) (takes_any y from d) h in
    ap (λ (b : Bool). (if b then told_page e good upto trim lng es t else t) ∷ map (λ t. if takes_page y from t then told_page e good upto trim lng es t else t) d) n.0 ∙ ap (λ r. t ∷ r) (page_left e good y from upto trim lng es d n.1)

pub untaken : (e y from upto trim lng : ℕ) (es : List Entry) (d : List Told) → takes_any y from d ≡ false → with_page e y from upto trim lng es d ≡ d
unfolding with_page
untaken e y from upto trim lng es d h = page_left e (max (digest_lng d) lng) y from upto trim lng es d h

pub ignored : (d new : Gathering) (y from upto trim lng : ℕ) (es : List Entry) → takes_any y from d.told ≡ false → new ≡ paged d y from upto trim lng es → sequencer.Seals new.told ≡ page_stage (Seals d) y from upto trim lng es
ignored d new y from upto trim lng es h e = ap (λ (g : Gathering). sequencer.Seals g.told) e ∙ (ap sequencer.Seals (untaken d.epoch y from upto trim lng es d.told h) ∙ sym (ap (λ (b : Bool). if b then gathered (paged d y from upto trim lng es) else sequencer.Seals d.told) h))
