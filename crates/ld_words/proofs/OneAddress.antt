-- A text is an address of one port at most, and says the addresses of nodes in one way at most.
use Rattle.std.proofs.Common.{◌≡◌, ◌≢◌, ◌<◌, ◌^◌, ◌∙◌, inl, inr, ℕ, zero, suc, ◌+◌, List, [], ◌∷◌, ◌++◌, length, map, take, None, Some, Bool, true, false, refl, ap, ap₂, sym, subst, arith, decimal}
use Rattle.std.specs.Prelude.{◌&&◌, Option, MatchOption, Result, Ok, Err, MatchResult, codes, is_some}
use Rattle.std.specs.List.{slice_get}
use Rattle.std.specs.Net.Grammar.{IsSocketText}
use Rattle.std.specs.Net.Socket.{socket_port}
use Rattle.std.specs.declared.net.socket_addr.SocketAddr.{SocketAddr}
use Rattle.std.proofs.NetLemmas.Theorems.{IsSocketText_unique}
use Rattle.std.proofs.lemmas.Fmt.{decimal_injective}
use Rattle.std.proofs.lemmas.List.{take_more}
use Rattle.std.proofs.lemmas.Option.{get_or_from_slice_get, slice_get_within}
use Rattle.clap.specs.Walk.{Row, Text, first_of}
use Rattle.serde_json.specs.Data.{Data, null, boolean, number, string, array, object, Members}
use Rattle.serde_json.specs.Find.{get, as_object}
use Rattle.serde_json.specs.Events.{members_len}
use Rattle.serde_json.specs.Read.{read}
use Rattle.ld_table.specs.Words.{all_of, any_of}
use Rattle.ld_lsn.specs.Text.{Lacks}
use Rattle.ld_lsn.proofs.Texts.{parted, Lacks-not}
use Rattle.ld_ids.specs.Set.{members}
use Rattle.ld_words.specs.declared.address.NodeAddress.{NodeAddress}
use Rattle.ld_words.specs.declared.address.Listen.{Listen}
use Rattle.ld_words.specs.declared.address.Listen.TheVariants as listens
use Rattle.ld_words.specs.declared.address.Reach.{Reach}
use Rattle.ld_words.specs.declared.address.Reach.TheVariants as reaches
use Rattle.ld_words.specs.declared.refusal.Refusal.{Refusal}
use Rattle.ld_words.specs.Meaning.{is_letter, is_of_name, is_host_name, IsNameAndPort, IsOfPort, IsAddress, IsAddressIn, AreAddressesIn, SaysAddresses, IsAt, IsListen, IsReach}
use Rattle.ld_words.specs.Refuses.{Refuses}

-- ---- names and ports

both : (a b : Bool) → (a && b) ≡ true → (a ≡ true) × (b ≡ true)
both true b h = (refl, h)
both false b h = absurd cc

no_colon : (b : ℕ) → is_of_name b ≡ true → b ≢ 58
no_colon b h e = let f : false ≡ true = subst (λ b. is_of_name b ≡ true) e h in absurd cc

name_lacks : (host : Text) → all_of is_of_name host ≡ true → Lacks 58 host
name_lacks [] h = tt
name_lacks (b ∷ host) h = let p = both (is_of_name b) (all_of is_of_name host) h in (no_colon b p.0, name_lacks host p.1)

-- a host's name has no colon
pub host_lacks : (host : Text) → is_host_name host ≡ true → Lacks 58 host
host_lacks host h = name_lacks host (both _ (all_of is_of_name host) (both _ (any_of is_letter host) h).0).1

-- a text without a colon, and one whose part before the first colon is no name, or whose part behind it no port, is no name and port
pub not_without : (text : Text) (port : ℕ) → Lacks 58 text → IsNameAndPort text port → ⊥
not_without text port lacks is = Lacks-not 58 is.host (decimal port) (subst (Lacks 58) is.whole lacks)

parts_of : (text host digits : Text) (port : ℕ) → Lacks 58 host → text ≡ host ++ 58 ∷ digits → (is : IsNameAndPort text port) → (host ≡ is.host) × (digits ≡ decimal port)
parts_of text host digits port lacks whole is = parted 58 host is.host digits (decimal port) lacks (host_lacks is.host is.name) (sym whole ∙ is.whole)

pub not_named : (text host digits : Text) (port : ℕ) → Lacks 58 host → text ≡ host ++ 58 ∷ digits → is_host_name host ≡ false → IsNameAndPort text port → ⊥
not_named text host digits port lacks whole none is =
    let e : false ≡ true = sym none ∙ ap is_host_name (parts_of text host digits port lacks whole is).0 ∙ is.name in
    absurd cc

-- the port behind a host's name
pub port_behind : (text host digits : Text) (o : Option ℕ) → Lacks 58 host → text ≡ host ++ 58 ∷ digits → is_host_name host ≡ true
    → MatchOption o ((port : ℕ) → port < 2 ^ 16 → digits ≡ decimal port → ⊥) (λ port. (digits ≡ decimal port) × (port < 2 ^ 16))
    → MatchOption o ((port : ℕ) → IsNameAndPort text port → ⊥) (IsNameAndPort text)
port_behind text host digits None lacks whole name none = λ port is. none port is.bits (parts_of text host digits port lacks whole is).1
port_behind text host digits (Some port) lacks whole name is =
    record { host = host; whole = whole ∙ ap (λ d. host ++ 58 ∷ d) is.0; name = name; bits = is.1 }

-- where the text is no IP address and port
pub port_of_other : (text : Text) (o : Option ℕ) → ((socket : SocketAddr) → IsSocketText text socket → ⊥)
    → MatchOption o ((port : ℕ) → IsNameAndPort text port → ⊥) (IsNameAndPort text) → MatchOption o ((port : ℕ) → IsOfPort text port → ⊥) (IsOfPort text)
port_of_other text None none other = λ port is. elim is [ inl ip ↦ none ip.socket ip.spells | inr name ↦ other port name.1 ]
port_of_other text (Some port) none is = inr (none, is)

-- a text is an address of one port
pub one_port : (text : Text) (p q : ℕ) → IsOfPort text p → IsOfPort text q → p ≡ q
one_port text p q (inl x) (inl y) = sym x.port_is ∙ ap socket_port (IsSocketText_unique text x.socket y.socket x.spells y.spells) ∙ y.port_is
one_port text p q (inl x) (inr y) = absurd (y.0 x.socket x.spells)
one_port text p q (inr x) (inl y) = absurd (x.0 y.socket y.spells)
one_port text p q (inr x) (inr y) =
    let parts = parts_of text x.1.host (decimal p) q (host_lacks x.1.host x.1.name) x.1.whole y.1 in
    decimal_injective p q (omega (arith, x.1.bits)) (omega (arith, y.1.bits)) parts.1

-- ---- addresses of nodes

one_address : (d : Data) (n : ℕ) (a b : NodeAddress) → IsAddressIn d n a → IsAddressIn d n b → a ≡ b
one_address d n a b x y =
    let texts : Some (string a.address) ≡ Some (string b.address) = sym x.there ∙ y.there in
    let same : a.address ≡ b.address = cc in
    ap₂ (λ n t. record { node = n; address = t }) (x.node_is ∙ sym y.node_is) same

-- the text that the object has for the node is the address's
text_of : (d : Data) (n : ℕ) (text : Text) (a : NodeAddress) → get (decimal n) d ≡ Some (string text) → IsAddressIn d n a → IsAddress 1 text
text_of d n text a there is =
    let texts : Some (string a.address) ≡ Some (string text) = sym is.there ∙ there in
    let same : a.address ≡ text = cc in
    subst (IsAddress 1) same is.address_is

pub no_address_of : (d : Data) (n : ℕ) (text : Text) → get (decimal n) d ≡ Some (string text) → ((port : ℕ) → IsOfPort text port → ⊥) → (a : NodeAddress) → IsAddressIn d n a → ⊥
no_address_of d n text there none a is = let of_it = text_of d n text a there is in none of_it.port of_it.of

pub no_port_zero : (d : Data) (n : ℕ) (text : Text) (port : ℕ) → get (decimal n) d ≡ Some (string text) → IsOfPort text port → port ≡ 0 → (a : NodeAddress) → IsAddressIn d n a → ⊥
no_port_zero d n text port there of none a is =
    let of_it = text_of d n text a there is in
    omega (arith, one_port text of_it.port port of_it.of of, of_it.from, none)

-- no address is that of an argument whose text is none
pub no_argument : (o : Option Text) (text : Text) → o ≡ Some text → ((port : ℕ) → IsOfPort text port → ⊥) → (address : Text) → o ≡ Some address → IsAddress 0 address → ⊥
no_argument o text there none address is of_it =
    let texts : Some address ≡ Some text = sym is ∙ there in
    let same : address ≡ text = cc in
    none of_it.port (subst (λ t. IsOfPort t of_it.port) same of_it.of)

one_list : (d : Data) (ns : List ℕ) (xs ys : List NodeAddress) → AreAddressesIn d ns xs → AreAddressesIn d ns ys → xs ≡ ys
one_list d [] [] [] x y = refl
one_list d [] [] (b ∷ ys) x y = absurd y
one_list d [] (a ∷ xs) ys x y = absurd x
one_list d (n ∷ ns) [] ys x y = absurd x
one_list d (n ∷ ns) (a ∷ xs) [] x y = absurd y
one_list d (n ∷ ns) (a ∷ xs) (b ∷ ys) x y = ap₂ (λ a l. a ∷ l) (one_address d n a b x.0 y.0) (one_list d ns xs ys x.1 y.1)

-- a text says the addresses of nodes in one way
pub one_says : (text : Text) (nodes : List Bool) (xs ys : List NodeAddress) → SaysAddresses text nodes xs → SaysAddresses text nodes ys → xs ≡ ys
one_says text nodes xs ys x y =
    let reads : Some (object y.members_of) ≡ Some (object x.members_of) = sym y.reads ∙ x.reads in
    let same : y.members_of ≡ x.members_of = cc in
    one_list (object x.members_of) (members nodes) xs ys x.each (subst (λ m. AreAddressesIn (object m) (members nodes) ys) same y.each)

-- the nodes of the addresses are these
pub nodes_of : (d : Data) (ns : List ℕ) (xs : List NodeAddress) → AreAddressesIn d ns xs → map (λ a. a.node) xs ≡ ns
nodes_of d [] [] are = refl
nodes_of d [] (a ∷ xs) are = absurd are
nodes_of d (n ∷ ns) [] are = absurd are
nodes_of d (n ∷ ns) (a ∷ xs) are = ap₂ (λ m l. m ∷ l) are.0.node_is (nodes_of d ns xs are.1)

-- the address of each of the nodes is there
pub address_at : (d : Data) (ns : List ℕ) (xs : List NodeAddress) (i n : ℕ) → slice_get ns i ≡ Some n → AreAddressesIn d ns xs → (a : NodeAddress) × IsAddressIn d n a
address_at d [] xs i n at are = absurd cc
address_at d (m ∷ ns) [] i n at are = absurd are
address_at d (m ∷ ns) (a ∷ xs) zero n at are = let same : m ≡ n = cc in (a, subst (λ k. IsAddressIn d k a) same are.0)
address_at d (m ∷ ns) (a ∷ xs) (suc i) n at are = address_at d ns xs i n at are.1

-- one without which there are no addresses
pub no_address : (d : Data) (ns : List ℕ) (xs : List NodeAddress) (i n : ℕ) → slice_get ns i ≡ Some n → ((a : NodeAddress) → IsAddressIn d n a → ⊥) → AreAddressesIn d ns xs → ⊥
no_address d ns xs i n at none are = let found = address_at d ns xs i n at are in none found.0 found.1

pushed : (d : Data) (ns : List ℕ) (xs : List NodeAddress) (n : ℕ) (a : NodeAddress) → AreAddressesIn d ns xs → IsAddressIn d n a → AreAddressesIn d (ns ++ n ∷ []) (xs ++ a ∷ [])
pushed d [] [] n a are is = (is, tt)
pushed d [] (x ∷ xs) n a are is = absurd are
pushed d (m ∷ ns) [] n a are is = absurd are
pushed d (m ∷ ns) (x ∷ xs) n a are is = (are.0, pushed d ns xs n a are.1 is)

-- the address of one node more
pub one_more : (d : Data) (ns : List ℕ) (xs : List NodeAddress) (i n : ℕ) (a : NodeAddress) → slice_get ns i ≡ Some n → AreAddressesIn d (take i ns) xs → IsAddressIn d n a
    → AreAddressesIn d (take (i + 1) ns) (xs ++ a ∷ [])
one_more d ns xs i n a at are is =
    let more = take_more ns i n (slice_get_within ns i n at) ∙ ap (λ k. take i ns ++ k ∷ []) (get_or_from_slice_get ns i n n at) in
    subst (λ l. AreAddressesIn d l (xs ++ a ∷ [])) (sym more) (pushed d (take i ns) xs n a are is)

-- ---- texts of addresses

object_of : (d : Data) (ms : Members) → as_object d ≡ Some ms → d ≡ object ms
object_of null ms is = absurd cc
object_of (boolean b) ms is = absurd cc
object_of (number n) ms is = absurd cc
object_of (string s) ms is = absurd cc
object_of (array ds) ms is = absurd cc
object_of (object m) ms is = let same : m ≡ ms = cc in ap object same

-- the value of a text that says addresses
value_of : (text : Text) (nodes : List Bool) (xs : List NodeAddress) (d : Data) → read text ≡ Some d → (says : SaysAddresses text nodes xs) → object says.members_of ≡ d
value_of text nodes xs d is says = let e : Some (object says.members_of) ≡ Some d = sym says.reads ∙ is in cc

pub says_them : (text : Text) (nodes : List Bool) (xs : List NodeAddress) (d : Data) (ms : Members) → read text ≡ Some d → as_object d ≡ Some ms
    → members_len ms ≡ length (members nodes) → AreAddressesIn d (members nodes) xs → SaysAddresses text nodes xs
says_them text nodes xs d ms is there count are =
    let whole = object_of d ms there in
    record { members_of = ms; reads = is ∙ ap Some whole; count = count; each = subst (λ d. AreAddressesIn d (members nodes) xs) whole are }

pub no_json : (text : Text) (nodes : List Bool) (xs : List NodeAddress) → read text ≡ None → SaysAddresses text nodes xs → ⊥
no_json text nodes xs none says = let e : None ≡ Some (object says.members_of) = sym none ∙ says.reads in absurd cc

pub no_object : (text : Text) (nodes : List Bool) (xs : List NodeAddress) (d : Data) → read text ≡ Some d → as_object d ≡ None → SaysAddresses text nodes xs → ⊥
no_object text nodes xs d is none says =
    let e : Some says.members_of ≡ None = ap as_object (value_of text nodes xs d is says) ∙ none in
    absurd cc

pub no_list : (text : Text) (nodes : List Bool) (xs : List NodeAddress) (d : Data) → read text ≡ Some d → ((l : List NodeAddress) → AreAddressesIn d (members nodes) l → ⊥)
    → SaysAddresses text nodes xs → ⊥
no_list text nodes xs d is none says = none xs (subst (λ d. AreAddressesIn d (members nodes) xs) (value_of text nodes xs d is says) says.each)

pub no_count : (text : Text) (nodes : List Bool) (xs : List NodeAddress) (d : Data) (ms : Members) → read text ≡ Some d → as_object d ≡ Some ms
    → members_len ms ≢ length (members nodes) → SaysAddresses text nodes xs → ⊥
no_count text nodes xs d ms is there other says =
    let e : Some says.members_of ≡ Some ms = ap as_object (value_of text nodes xs d is says) ∙ there in
    let same : says.members_of ≡ ms = cc in
    other (sym (ap members_len same) ∙ says.count)

-- ---- which of two arguments is given

pub no_listen : (rows : List Row) (l : Listen) → true ≡ is_some (first_of (codes "listen") rows)
    → ((address : Text) → first_of (codes "listen") rows ≡ Some address → IsAddress 0 address → ⊥) → IsListen rows l → ⊥
no_listen rows (listens.Port port) given none is = let e : true ≡ is_some {T = Text} None = given ∙ ap is_some is.1 in absurd cc
no_listen rows (listens.At address) given none is = none address is.1 is.2

pub no_reach : (rows : List Row) (nodes : List Bool) (r : Reach) → true ≡ is_some (first_of (codes "at") rows)
    → ((list : List NodeAddress) → IsAt rows nodes list → ⊥) → IsReach rows nodes r → ⊥
no_reach rows nodes (reaches.Above port) given none is = let e : true ≡ is_some {T = Text} None = given ∙ ap is_some is.1 in absurd cc
no_reach rows nodes (reaches.At list) given none is = none list is.1

-- the argument's text says the addresses that it is
says_of : (rows : List Row) (nodes : List Bool) (text : Text) (list : List NodeAddress) → first_of (codes "at") rows ≡ Some text → IsAt rows nodes list → SaysAddresses text nodes list
says_of rows nodes text list there is =
    let texts : Some is.text ≡ Some text = sym is.is ∙ there in
    let same : is.text ≡ text = cc in
    subst (λ t. SaysAddresses t nodes list) same is.says

-- the argument is what its text says
pub at_as : (rows : List Row) (nodes : List Bool) (text : Text) (r : Result (List NodeAddress) Refusal) → first_of (codes "at") rows ≡ Some text
    → MatchResult r (SaysAddresses text nodes) (Refuses ((list : List NodeAddress) → SaysAddresses text nodes list → ⊥))
    → MatchResult r (IsAt rows nodes) (Refuses ((list : List NodeAddress) → IsAt rows nodes list → ⊥))
at_as rows nodes text (Ok list) there says = record { text = text; is = there; says = says }
at_as rows nodes text (Err refusal) there none = λ other list is. none other list (says_of rows nodes text list there is)

-- where the nodes are is said in one way, and so is where a node listens
pub one_at : (rows : List Row) (nodes : List Bool) (xs ys : List NodeAddress) → IsAt rows nodes xs → IsAt rows nodes ys → xs ≡ ys
one_at rows nodes xs ys x y = one_says y.text nodes xs ys (says_of rows nodes y.text xs y.is x) y.says

pub nodes_of_at : (rows : List Row) (nodes : List Bool) (xs : List NodeAddress) → IsAt rows nodes xs → map (λ a. a.node) xs ≡ members nodes
nodes_of_at rows nodes xs is = nodes_of (object is.says.members_of) (members nodes) xs is.says.each
