-- A configuration that is read is in bounds.
use Rattle.std.specs.Prelude.{◌==◌, ◌&&◌, ◌||◌, not, nat_le, Bool, Option, Some, None, ok_or, Result, Ok, Err, if◌then◌else◌}
use Rattle.std.proofs.Common.{◌≡◌, ◌⊎◌, inl, inr, ℕ, ◌-◌, ◌≤◌, List, [], ◌∷◌, ◌++◌, length, add-zero, length-append, ◌+◌, true, false, refl, sym, ap, ◌∙◌, arith, subst}
use Rattle.std.proofs.lemmas.Bool.Decides.{nat_tests}
use Rattle.std.proofs.lemmas.Bool.{or_left, or_cases, eq-eqb, eqb-true, eqb-false}
use Rattle.std.proofs.lemmas.List.{length-set}
use Rattle.serde_json.specs.Data.{Data, Items, no_items, item}
use Rattle.serde_json.specs.Find.{as_array}
use Rattle.serde_json.specs.Events.{items_len}
use Rattle.ld_table.specs.Words.{is_in}
use Rattle.ld_ids.specs.Set.{no_nodes, with_node, has_node, members, members_from, IsSet, IsSubset}
use Rattle.ld_ids.specs.Id.{IsNode, IsLog}
use Rattle.ld_ids.proofs.Members.{members-with, has-members}
use Rattle.ld_ids.specs.declared.set.Spec.{Spec}
use Rattle.ld_config.specs.declared.fault.Field.{Field}
use Rattle.ld_config.specs.declared.fault.Field.TheVariants as fields
use Rattle.ld_config.specs.declared.fault.ConfigFault.{ConfigFault}
use Rattle.ld_config.specs.declared.fault.ConfigFault.TheVariants.{Shape, Range, Twice}
use Rattle.ld_config.specs.Config.{◌>>=◌, number_of, bounded, bounded_of, new_node, add_nodes, nodes_of, new_member, add_members, set_of, is_used, new_log, id_of, extras_of, log_parts_of, spec_of, add_logs, logs_of}
use Rattle.ld_config.specs.Bounds.{IsSpecOf, AreSpecsOf, IsInBounds}

pub record Passed {A B : Type 0} (r : Result A ConfigFault) (f : A → Result B ConfigFault) (out : B) : Type 0 where
  pub value : A
  pub first : r ≡ Ok value
  pub second : f value ≡ Ok out

-- both steps passed
passed : {A B : Type 0} (r : Result A ConfigFault) (f : A → Result B ConfigFault) (out : B) → (r >>= f) ≡ Ok out → Passed r f out
passed (Ok x) f out is = record { value = x; first = refl; second = is }
passed (Err e) f out is = absurd (cc)

ok_same : {A : Type 0} (x y : A) → ◌≡◌ {A = Result A ConfigFault} (Ok x) (Ok y) → x ≡ y
ok_same x y is = cc

some_items : {A : Type 0} (b : Bool) (e : ConfigFault) (r : Result A ConfigFault) (out : A) → (if b then Err e else r) ≡ Ok out → r ≡ Ok out
some_items true e r out is = absurd (cc)
some_items false e r out is = is

few_items : {A : Type 0} (b : Bool) (e : ConfigFault) (r : Result A ConfigFault) (out : A) → (if b then r else Err e) ≡ Ok out → r ≡ Ok out
few_items true e r out is = is
few_items false e r out is = absurd (cc)

items_there : {A : Type 0} (b : Bool) (e : ConfigFault) (r : Result A ConfigFault) (out : A) → (if b then Err e else r) ≡ Ok out → b ≡ false
items_there true e r out is = absurd (cc)
items_there false e r out is = refl

few_there : {A : Type 0} (b : Bool) (e : ConfigFault) (r : Result A ConfigFault) (out : A) → (if b then r else Err e) ≡ Ok out → b ≡ true
few_there true e r out is = refl
few_there false e r out is = absurd (cc)

not_true : (b : Bool) → not b ≡ true → b ≡ false
not_true true h = cc
not_true false h = refl

neither : (a b : Bool) → (a || b) ≡ false → (a ≡ false) × (b ≡ false)
neither true b h = absurd (cc)
neither false b h = (refl, h)

swapped : (a b : ℕ) → (a == b) ≡ false → (b == a) ≡ false
swapped a b h = grind (arith, nat_tests)

both_false : (a b : Bool) → a ≡ false → b ≡ false → (a || b) ≡ false
both_false a b h k = rw (h, k) refl

still_new : (log : ℕ) (specs : List Spec) (spec : Spec) → is_used log specs ≡ false → (log == spec.log) ≡ false → is_used log (specs ++ spec ∷ []) ≡ false
still_new log [] spec fresh other = both_false (spec.log == log) false (swapped log spec.log other) refl
still_new log (s ∷ specs) spec fresh other =
    let parts = neither (s.log == log) (is_used log specs) fresh in
    both_false (s.log == log) (is_used log (specs ++ spec ∷ [])) parts.0 (still_new log specs spec parts.1 other)

-- a test passed
pub record Tested {A : Type 0} (b : Bool) (x out : A) : Type 0 where
  pub test : b ≡ true
  pub is : x ≡ out

tested : {A : Type 0} (b : Bool) (x out : A) (e : ConfigFault) → (if b then Ok x else Err e) ≡ Ok out → Tested b x out
tested true x out e is = record { test = refl; is = cc }
tested false x out e is = absurd (cc)

refused : {A : Type 0} (b : Bool) (x out : A) (e : ConfigFault) → (if b then Err e else Ok x) ≡ Ok out → Tested (not b) x out
refused true x out e is = absurd (cc)
refused false x out e is = record { test = refl; is = cc }

within_bounds : (a b n : ℕ) → (nat_le a n && nat_le n b) ≡ true → (a ≤ n) × (n ≤ b)
within_bounds a b n h = grind (arith, nat_tests)

bounded_bounds : (field : Field) (least most : ℕ) (d : Data) (n : ℕ) → bounded_of field least most d ≡ Ok n → (least ≤ n) × (n ≤ most)
bounded_bounds field least most d n is =
    let p = passed (number_of field d) (bounded field least most) n is in
    let t = tested (nat_le least p.value && nat_le p.value most) p.value n (Range field p.value) p.second in
    subst (λ k. (least ≤ k) × (k ≤ most)) t.is (within_bounds least most p.value t.test)

-- some node is in the set
nonempty : (n : ℕ) (ns : List ℕ) → is_in n ns ≡ true → 1 ≤ length ns
nonempty n [] h = absurd (cc)
nonempty n (m ∷ ns) h = omega arith

-- what holds of a set that is being read: its flags, and its nodes among others
pub record IsPart (nodes set : List Bool) : Type 0 where
  pub flags : IsSet set
  pub within : IsSubset set nodes

set_with : (n : ℕ) (set : List Bool) → IsSet set → IsSet (with_node n set)
set_with n set flags = length-set set (n - 1) true ∙ flags

some_with : (n : ℕ) (set : List Bool) → IsNode n → IsSet set → 1 ≤ length (members (with_node n set))
some_with n set is flags =
    let there : is_in n (members (with_node n set)) ≡ true = members-with n set n is flags ∙ or_left (n == n) (is_in n (members set)) (eq-eqb n n refl) in
    nonempty n (members (with_node n set)) there

within_more : (nodes set : List Bool) (n : ℕ) → IsNode n → has_node n nodes ≡ true → IsPart nodes set → IsPart nodes (with_node n set)
within_more nodes set n is there part = record {
  flags = set_with n set part.flags;
  within = λ node has. elim (or_cases (node == n) (is_in node (members set)) (sym (members-with n set node is part.flags) ∙ has)) [
    | inl same ↦ subst (λ k. is_in k (members nodes) ≡ true) (sym (eqb-true node n same)) (sym (has-members n nodes is.0) ∙ there)
    | inr before ↦ part.within node before
  ];
}

none_within : (nodes : List Bool) → IsPart nodes no_nodes
unfolding members_from
none_within nodes = record { flags = refl; within = λ node has. absurd (cc) }

four : (a b c d : Bool) → (a && b && c && d) ≡ true → ((a && b) ≡ true) × (c ≡ true)
four true true true d h = (refl, refl)
four true true false d h = absurd (cc)
four true false c d h = absurd (cc)
four false b c d h = absurd (cc)

three : (a b c : Bool) → (a && b && c) ≡ true → (a && b) ≡ true
three true true c h = refl
three true false c h = absurd (cc)
three false b c h = absurd (cc)

members_within : (nodes : List Bool) (ds : Items) (set out : List Bool) → add_members nodes ds set ≡ Ok out → IsPart nodes set → IsPart nodes out
unfolding add_members
members_within nodes no_items set out is part = subst (IsPart nodes) (ok_same set out is) part
members_within nodes (item d ds) set out is part =
    let p = passed (number_of fields.Member d) _ out is in
    let q = passed (new_member nodes p.value set) (add_members nodes ds) out p.second in
    let t = tested (nat_le 1 p.value && nat_le p.value 16 && has_node p.value nodes && not (has_node p.value set)) (with_node p.value set) q.value (Range fields.Member p.value) q.first in
    let facts = four (nat_le 1 p.value) (nat_le p.value 16) (has_node p.value nodes) (not (has_node p.value set)) t.test in
    members_within nodes ds q.value out q.second (subst (IsPart nodes) t.is (within_more nodes set p.value (within_bounds 1 16 p.value facts.0) facts.1 part))

set_within : (nodes : List Bool) (d : Data) (out : List Bool) → set_of nodes d ≡ Ok out → IsPart nodes out
set_within nodes d out is =
    let p = passed (ok_or (as_array d) (Shape fields.Set)) _ out is in
    let t = some_items (items_len p.value == 0) (Range fields.Set 0) (add_members nodes p.value no_nodes) out p.second in
    members_within nodes p.value no_nodes out t (none_within nodes)

-- a set with a node in it
pub record IsFilled (set : List Bool) : Type 0 where
  pub flags : IsSet set
  pub some : 1 ≤ length (members set)

nodes_filled : (ds : Items) (set out : List Bool) → add_nodes ds set ≡ Ok out → IsSet set → ((items_len ds ≡ 0 → ⊥) ⊎ (1 ≤ length (members set))) → IsFilled out
unfolding add_nodes
nodes_filled no_items set out is flags some =
    let filled : 1 ≤ length (members set) = elim some [ inl items ↦ absurd (items refl) | inr there ↦ there ] in
    subst IsFilled (ok_same set out is) (record { flags = flags; some = filled })
nodes_filled (item d ds) set out is flags some =
    let p = passed (number_of fields.Node d) _ out is in
    let q = passed (new_node p.value set) (add_nodes ds) out p.second in
    let t = tested (nat_le 1 p.value && nat_le p.value 16 && not (has_node p.value set)) (with_node p.value set) q.value (Range fields.Node p.value) q.first in
    let node = within_bounds 1 16 p.value (three (nat_le 1 p.value) (nat_le p.value 16) (not (has_node p.value set)) t.test) in
    nodes_filled ds q.value out q.second (subst IsSet t.is (set_with p.value set flags)) (inr (subst (λ s. 1 ≤ length (members s)) t.is (some_with p.value set node flags)))

pub nodes_in_bounds : (d : Data) (out : List Bool) → nodes_of d ≡ Ok out → IsFilled out
nodes_in_bounds d out is =
    let p = passed (ok_or (as_array d) (Shape fields.Nodes)) _ out is in
    let t = some_items (items_len p.value == 0) (Range fields.Nodes 0) (add_nodes p.value no_nodes) out p.second in
    let some = items_there (items_len p.value == 0) (Range fields.Nodes 0) (add_nodes p.value no_nodes) out p.second in
    nodes_filled p.value no_nodes out t refl (inl (eqb-false (items_len p.value) 0 some))

extras_few : (d : Option Data) (n : ℕ) → extras_of d ≡ Ok n → n ≤ 3
extras_few None n is = let same : 0 ≡ n = ok_same 0 n is in omega arith
extras_few (Some d) n is = (bounded_bounds fields.Extras 0 3 d n is).1

-- what holds of the log that is read
pub record IsNewSpec (nodes : List Bool) (specs : List Spec) (spec : Spec) : Type 0 where
  pub fits : IsSpecOf nodes spec
  pub fresh : is_used spec.log specs ≡ false

spec_bounds : (nodes : List Bool) (specs : List Spec) (d : Data) (spec : Spec) → spec_of nodes specs d ≡ Ok spec → IsNewSpec nodes specs spec
spec_bounds nodes specs d spec is =
    let parts = passed (log_parts_of d) _ spec is in
    let log = passed (id_of specs parts.value.id) _ spec parts.second in
    let nodes_set = passed (set_of nodes parts.value.set) _ spec log.second in
    let r = passed (bounded_of fields.R 1 (length (members nodes_set.value)) parts.value.r) _ spec nodes_set.second in
    let extras = passed (extras_of parts.value.extras) _ spec r.second in
    let number = passed (bounded_of fields.Id 1 65535 parts.value.id) (λ n. new_log n specs) log.value log.first in
    let fresh = refused (is_used number.value specs) number.value log.value (Twice number.value) number.second in
    let bounds = bounded_bounds fields.R 1 (length (members nodes_set.value)) parts.value.r r.value r.first in
    let part = set_within nodes parts.value.set nodes_set.value nodes_set.first in
    let made : Spec = record { log = log.value; set = nodes_set.value; r = r.value; extras = extras.value } in
    let same : made ≡ spec = ok_same made spec extras.second in
    subst (IsNewSpec nodes specs) same (record {
      fits = record {
        log = subst IsLog fresh.is (bounded_bounds fields.Id 1 65535 parts.value.id number.value number.first);
        set = part.flags;
        within = part.within;
        least = bounds.0;
        most = bounds.1;
        few = extras_few parts.value.extras extras.value extras.first;
      };
      fresh = subst (λ n. is_used n specs ≡ false) fresh.is (not_true (is_used number.value specs) fresh.test);
    })

push_specs : (nodes : List Bool) (specs : List Spec) (spec : Spec) → AreSpecsOf nodes specs → IsSpecOf nodes spec → is_used spec.log specs ≡ false → AreSpecsOf nodes (specs ++ spec ∷ [])
push_specs nodes [] spec are fits fresh = (fits, refl, tt)
push_specs nodes (s ∷ specs) spec are fits fresh =
    let parts = neither (s.log == spec.log) (is_used spec.log specs) fresh in
    (are.0, still_new s.log specs spec are.1 parts.0, push_specs nodes specs spec are.2 fits parts.1)

logs_fit : (nodes : List Bool) (ds : Items) (specs out : List Spec) → add_logs nodes ds specs ≡ Ok out → AreSpecsOf nodes specs → AreSpecsOf nodes out
unfolding add_logs
logs_fit nodes no_items specs out is are = subst (AreSpecsOf nodes) (ok_same specs out is) are
logs_fit nodes (item d ds) specs out is are =
    let p = passed (spec_of nodes specs d) _ out is in
    let read = spec_bounds nodes specs d p.value p.first in
    logs_fit nodes ds (specs ++ p.value ∷ []) out p.second (push_specs nodes specs p.value are read.fits read.fresh)

logs_count : (nodes : List Bool) (ds : Items) (specs out : List Spec) → add_logs nodes ds specs ≡ Ok out → length out ≡ length specs + items_len ds
unfolding add_logs
logs_count nodes no_items specs out is = ap length (sym (ok_same specs out is)) ∙ sym (add-zero (length specs))
logs_count nodes (item d ds) specs out is =
    let p = passed (spec_of nodes specs d) _ out is in
    let rest = logs_count nodes ds (specs ++ p.value ∷ []) out p.second in
    let more = length-append specs (p.value ∷ []) in
    omega arith

-- what holds of the logs that are read
pub record AreLogs (nodes : List Bool) (logs : List Spec) : Type 0 where
  pub some : 1 ≤ length logs
  pub few : length logs ≤ 64
  pub specs : AreSpecsOf nodes logs

pub logs_in_bounds : (nodes : List Bool) (d : Data) (out : List Spec) → logs_of nodes d ≡ Ok out → AreLogs nodes out
logs_in_bounds nodes d out is =
    let p = passed (ok_or (as_array d) (Shape fields.Logs)) _ out is in
    let all = few_items (nat_le 1 (items_len p.value) && nat_le (items_len p.value) 64) _ (add_logs nodes p.value []) out p.second in
    let count = within_bounds 1 64 (items_len p.value) (few_there (nat_le 1 (items_len p.value) && nat_le (items_len p.value) 64) _ (add_logs nodes p.value []) out p.second) in
    let long = logs_count nodes p.value [] out all in
    record { some = omega (arith, count.0, long); few = omega (arith, count.1, long); specs = logs_fit nodes p.value [] out all tt }

pub in_bounds : (nodes : List Bool) (logs : List Spec) → IsFilled nodes → AreLogs nodes logs → IsInBounds (record { nodes = nodes; logs = logs })
in_bounds nodes logs filled are = record { nodes = filled.flags; some_node = filled.some; some_log = are.some; few_logs = are.few; specs = are.specs }
