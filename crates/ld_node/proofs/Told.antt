-- What a node reads of its index alone is the same of the plain state that it represents.
use Rattle.std.proofs.Common.{◌≡◌, ℕ, List, [], ◌∷◌, map, Option, Some, None, refl, ap, sym, ◌∙◌, ◌&&◌, not, ◌==◌, nat_lt, cond}
use Rattle.ld_table.specs.Table.{map_values}
use Rattle.ld_table.specs.Words.{is_in}
use Rattle.ld_msg.specs.declared.msg.What.{What}
use Rattle.ld_msg.specs.declared.msg.What.TheVariants.{Rec, Hole, Bridge, Plug, Withheld}
use Rattle.ld_msg.specs.declared.msg.Entry.{Entry}
use Rattle.ld_msg.specs.declared.msg.Body.{Body}
use Rattle.ld_msg.specs.declared.msg.Body.TheVariants as bodies
use Rattle.ld_msg.specs.declared.msg.Summary.{Summary}
use Rattle.ld_msg.specs.Register.{Register, summary_shown}
use Rattle.ld_op.specs.Plain.{Plain, Log, log_of}
use Rattle.ld_op.specs.Ticks.{Nothing, tick_with, refill_tick, lowest_unclean}
use Rattle.ld_op.specs.Cells.{each_what, each_entry, each_log, each_body, byte_at}
use Rattle.ld_op.proofs.Cells.{log_same}
use Rattle.ld_op.proofs.Same.{all_missing_same}
use Rattle.ld_store.specs.Open.{told_plain}
use Rattle.ld_node.specs.Known.{Known}
use Rattle.ld_node.specs.Swaps.{can_replace}
use Rattle.ld_node.specs.Looks.{seen}

pub lost_to_told : (told : Option (List ℕ)) (i : Plain) (l : ℕ) → (log_of i l).lost_to ≡ (log_of (told_plain told i) l).lost_to
lost_to_told None i l = refl
lost_to_told (Some bytes) i l = sym (ap (λ g. g.lost_to) (log_same (byte_at bytes) i l))

pub can_replace_told : (told : Option (List ℕ)) (id : ℕ) (known : Known) (i : Plain) (l other : ℕ) → can_replace id known i l other ≡ can_replace id known (told_plain told i) l other
can_replace_told None id known i l other = refl
can_replace_told (Some bytes) id known i l other =
    sym (ap (λ g. (is_in l known.logs && (is_in other known.nodes && not (id == other))) && (not g.lost && nat_lt 0 g.lost_to)) (log_same (byte_at bytes) i l))

-- ---- a tick ----

tick_by : (f : ℕ → ℕ) (g : Log) (o : Option Summary) → tick_with (each_log f g) o ≡ tick_with g o
tick_by f g None = ap (λ ns. cond g.lost (refill_tick (nat_lt g.lost_to (lowest_unclean g)) ns) Nothing) (all_missing_same f g)
tick_by f g (Some y) = refl

pub seen_told : (told : Option (List ℕ)) (i : Plain) (l : ℕ) (c : Register) → seen (log_of i l) c l ≡ seen (log_of (told_plain told i) l) c l
seen_told None i l c = refl
seen_told (Some bytes) i l c = sym (ap (λ g. seen g c l) (log_same (byte_at bytes) i l) ∙ tick_by (byte_at bytes) (log_of i l) (summary_shown c l (lowest_unclean (log_of i l))))

-- ---- an index as it is ----

abbrev pub itself : ℕ → ℕ
itself k = k

numbers_are : (p : List ℕ) → map itself p ≡ p
numbers_are [] = refl
numbers_are (k ∷ p) = ap (λ q. k ∷ q) (numbers_are p)

what_is : (w : What) → each_what itself w ≡ w
what_is (Rec p) = ap Rec (numbers_are p)
what_is Hole = refl
what_is Bridge = refl
what_is Plug = refl
what_is Withheld = refl

entry_is : (e : Entry) → each_entry itself e ≡ e
entry_is e = ap (λ w. record { number = e.number; ballot = e.ballot; what = w }) (what_is e.what)

entries_are : (es : List Entry) → map (each_entry itself) es ≡ es
entries_are [] = refl
entries_are (e ∷ es) = (λ i. entry_is e i ∷ entries_are es i)

table_is : (m : List (ℕ × Entry)) → map_values (each_entry itself) m ≡ m
table_is [] = refl
table_is (e ∷ m) = (λ i. (e.0, entry_is e.1 i) ∷ table_is m i)

pub log_is : (g : Log) → each_log itself g ≡ g
log_is g = ap (λ m. record g { entries = m }) (table_is g.entries)

pub body_is : (b : Body) → each_body itself b ≡ b
body_is (bodies.DigestPage from upto trim lng es) = ap (bodies.DigestPage from upto trim lng) (entries_are es)
body_is (bodies.ReadPage round from upto clean es) = ap (bodies.ReadPage round from upto clean) (entries_are es)
body_is _ = refl
