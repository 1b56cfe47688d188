-- The replies that tests of recoveries send.
use Rattle.std.proofs.Common.{◌≡◌, ◌≤◌, ◌<◌, ◌-◌, ◌^◌, ℕ, false, List, [], subst, sym, ◌∙◌, arith}
use Rattle.ld_lsn.specs.Number.{numbered, epoch_of, home_epoch}
use Rattle.ld_ids.specs.Id.{IsNode}
use Rattle.ld_msg.specs.declared.msg.Who.TheVariants as whos
use Rattle.ld_msg.specs.declared.msg.Summary.{Summary}
use Rattle.ld_msg.specs.declared.msg.Entry.{Entry}
use Rattle.ld_msg.specs.Bounds.{ToSequencer, IsSummary, IsPage}
use Rattle.ld_node_bounds.proofs.Numbers.{home_is}

pub to_two : (n : ℕ) → IsNode n → ToSequencer (whos.Node n) (whos.Sequencer 2)
to_two n h = (h, (omega arith, omega arith))

pub summary_at : (s epoch ballot : ℕ) (y : Summary) → s ≡ numbered epoch 1 → epoch < ballot → ballot ≤ 2 ^ 32 - 2 → y ≡ record { ballot = ballot; lng = 0; trim = 0; end = 9; loss = false } → IsSummary (epoch_of s) y
summary_at s epoch ballot y h l m e = subst (λ (x : Summary). IsSummary (epoch_of s) x) (sym e) record {
  ballot = omega (arith, h, l);
  ballot_most = m;
  lng = omega arith;
  trim = omega arith;
  end = omega arith;
  end_most = omega arith;
}

home_in : (v esn : ℕ) → v ≡ numbered 1 esn → 1 ≤ esn → esn < 2 ^ 32 → home_epoch v ≡ 1
home_in v esn h l m = let a = home_is v (omega (arith, h, l)) in omega (arith, a, h, l, m)

pub no_entries : (from upto a b : ℕ) (es : List Entry) → from ≡ numbered 1 a → upto ≡ numbered 1 b → 1 ≤ a → a ≤ b → b < 2 ^ 32 → es ≡ [] → IsPage from upto es
no_entries from upto a b es h k l m u e =
    let c : a < 2 ^ 32 = omega (arith, m, u) in
    let d : 1 ≤ b = omega (arith, l, m) in
    subst (λ (x : List Entry). IsPage from upto x) (sym e) record {
      range = omega (arith, h, k, m);
      bound = omega (arith, k, u);
      home = home_in from a h l c ∙ sym (home_in upto b k d u);
      few = omega arith;
      entries = tt;
      rise = tt;
    }
