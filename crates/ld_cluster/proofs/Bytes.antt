-- What lies on the disks of a cluster.
use Rattle.std.proofs.Common.{◌≡◌, ℕ, Bool, true, false, cond, nat_cmp, List, [], ◌∷◌, Option, Some, refl, ap, sym, ◌∙◌, subst}
use Rattle.std.specs.BTreeMap.{is_at}
use Rattle.ld_table.specs.Table.{find}
use Rattle.ld_table.proofs.Laws.{same_key}
use Rattle.ld_config.specs.declared.config.Config.{Config}
use Rattle.ld_msg.specs.Register.{Register}
use Rattle.ld_machine.specs.Disk.{Node, Up}
use Rattle.ld_register.specs.Stands.{StandsFor}
use Rattle.ld_register.specs.Calls.{unarmed}
use Rattle.ld_register.specs.Arming.{Foresees}
use Rattle.ld_host.specs.Stands.{Stands}
use Rattle.ld_host.specs.Standing.{AllStand}
use Rattle.ld_host.specs.declared.host.Host.{Host}
use Rattle.ld_host.proofs.Bytes.{has_bytes}
use Rattle.ld_cluster.specs.Standing.{config_of}
use Rattle.ld_cluster.specs.Bytes.{HasBytes, register_bytes}
use Rattle.ld_cluster.specs.declared.cluster.Cluster.{Cluster}

found_by : (c : Config) (n : ℕ) (b d : Bool) (h : ℕ × Host) (y : ℕ × Node) (x : Node) (o : Option Host) (p : Option Node) → d ≡ b → (b ≡ true → n ≡ y.0) → h.0 ≡ y.0 → Stands c h.0 h.1 y.1
    → (p ≡ Some x → (host : Host) × (o ≡ Some host) × Stands c n host x) → cond b (Some y.1) p ≡ Some x → (host : Host) × (cond d (Some h.1) o ≡ Some host) × Stands c n host x
found_by c n true d h y x o p e k g s r f =
    let v : y.1 ≡ x = cc in
    (h.1, ap (λ z. cond z (Some h.1) o) e, subst (λ m. Stands c m h.1 x) (g ∙ sym (k refl)) (subst (λ (w : Node). Stands c h.0 h.1 w) v s))
found_by c n false d h y x o p e k g s r f = let q = r f in (q.0, ap (λ z. cond z (Some h.1) o) e ∙ q.1, q.2)

pub found : (c : Config) (n : ℕ) (hs : List (ℕ × Host)) (ys : List (ℕ × Node)) (x : Node) → AllStand c hs ys → find n ys ≡ Some x → (host : Host) × (find n hs ≡ Some host) × Stands c n host x
unfolding find
found c n [] [] x a f = absurd cc
found c n [] (y ∷ ys) x a f = absurd a
found c n (h ∷ hs) [] x a f = absurd a
found c n (h ∷ hs) (y ∷ ys) x a f = found_by c n (is_at (nat_cmp n) y.0) (is_at (nat_cmp n) h.0) h y x (find n hs) (find n ys) (ap (is_at (nat_cmp n)) a.0) (same_key n y.0) a.0 a.1 (found c n hs ys x a.2) f

pub node_bytes : (k : Cluster) (n : ℕ) (nodes : List (ℕ × Node)) (x : Node) → AllStand (config_of k) k.hosts.map.entries nodes → find n nodes ≡ Some x → x.status ≡ Up → HasBytes k n x
node_bytes k n nodes x a f up =
    let q = found (config_of k) n k.hosts.map.entries nodes x a f in
    record { host = q.0; there = q.1; bytes = has_bytes (config_of k) n q.0.state x q.2.state up }

pub register_stands : (k : Cluster) (r : Register) → Foresees k.register r → StandsFor (register_bytes k) (unarmed r)
register_stands k r f =
    let reads = f.foretells.holds.reads in
    let e : register_bytes k ≡ reads.bytes = let s = reads.seen_is in cc in
    subst (λ b. StandsFor b (unarmed r)) (sym e) reads.stands
