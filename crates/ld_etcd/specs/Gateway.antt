-- What is asked of etcd's JSON gateway, and what its answers say.
use Rattle.std.specs.Prelude.{◌≡◌, ◌≢◌, ◌-◌, ◌^◌, ◌++◌, ◌∷◌, [], ℕ, suc, List, Option, Some, None, Ok, option_and_then, unwrap_or, codes, length, true, false}
use Rattle.std.specs.Fmt.{digits, padded_integral, format_spec}
use Rattle.base64.specs.Engines.{standard}
use Rattle.base64.specs.GeneralPurpose.{encode_of, decode_of}
use Rattle.serde_json.specs.Data.{Data, Items, no_items, item}
use Rattle.serde_json.specs.Find.{get, as_str, as_bool, as_array}

-- ---- what is asked ----

-- a number in 16 hexadecimal digits
abbrev pub hexadecimal : ℕ → List ℕ
hexadecimal n = padded_integral (format_spec 32 0 4 16 (2 ^ 64 - 1)) false [] (digits 16 false n)

-- the key of the record of a number
unfoldable pub record_key : List ℕ → ℕ → List ℕ
record_key prefix n = prefix ++ codes "/" ++ hexadecimal n

-- behind all of them: a 0 is the character behind a /
unfoldable pub keys_end : List ℕ → List ℕ
keys_end prefix = prefix ++ codes "0"

-- bytes as the gateway has them
unfoldable pub encoded : List ℕ → List ℕ
encoded bytes = encode_of standard bytes

-- all keys from that of a number on, 2000 of them at most; no order is asked for, and etcd's is that of the keys
abbrev pub range_request : List ℕ → ℕ → List ℕ
range_request prefix from = codes "{\"key\":\"" ++ encoded (record_key prefix from) ++ codes "\",\"range_end\":\"" ++ encoded (keys_end prefix)
    ++ codes "\",\"limit\":2000}"

-- where the key of a number was never made, it is made with this value; otherwise what stands there is told
abbrev pub make_request : List ℕ → ℕ → List ℕ → List ℕ
make_request prefix n value = let key = encoded (record_key prefix n) in codes "{\"compare\":[{\"target\":\"CREATE\",\"result\":\"EQUAL\",\"key\":\"" ++ key
    ++ codes "\",\"create_revision\":\"0\"}],\"success\":[{\"request_put\":{\"key\":\"" ++ key ++ codes "\",\"value\":\"" ++ encoded value
    ++ codes "\"}}],\"failure\":[{\"request_range\":{\"key\":\"" ++ key ++ codes "\"}}]}"

-- ---- what is answered ----

abbrev pub text_in : List ℕ → Data → Option (List ℕ)
text_in name d = option_and_then as_str (get name d)

-- the elements of a member that is an array; none where there is no such array
abbrev pub items_in : List ℕ → Data → Items
items_in name d = unwrap_or (option_and_then as_array (get name d)) no_items

-- a pair of the key of this number, which was made once and never changed, and of this value; an empty value is left out
pub record IsPair (prefix : List ℕ) (n : ℕ) (pair : Data) (value : List ℕ) : Type 0 where
  pub key : text_in (codes "key") pair ≡ Some (encoded (record_key prefix n))
  pub version : text_in (codes "version") pair ≡ Some (codes "1")
  pub value_is : decode_of standard (unwrap_or (text_in (codes "value") pair) []) ≡ Ok value

-- the transaction made the record
pub record IsMade (answer : Data) : Type 0 where
  pub response : Data
  pub one : items_in (codes "responses") answer ≡ item response no_items
  pub succeeded : option_and_then as_bool (get (codes "succeeded") answer) ≡ Some true
  pub put : get (codes "response_put") response ≢ None

-- it didn't, and tells that the record of this number has this value
pub record IsThere (prefix : List ℕ) (n : ℕ) (answer : Data) (value : List ℕ) : Type 0 where
  pub response : Data
  pub one : items_in (codes "responses") answer ≡ item response no_items
  pub refused : option_and_then as_bool (get (codes "succeeded") answer) ≢ Some true
  pub range : Data
  pub range_is : get (codes "response_range") response ≡ Some range
  pub pair : Data
  pub alone : items_in (codes "kvs") range ≡ item pair no_items
  pub pair_is : IsPair prefix n pair value

-- these values are those of the first pairs, the first one of this number
abbrev pub BeginWith : List ℕ → ℕ → Items → List (List ℕ) → Type 0
BeginWith prefix n pairs [] = Unit {0}
BeginWith prefix n no_items (v ∷ vs) = ⊥
BeginWith prefix n (item d ds) (v ∷ vs) = IsPair prefix n d v × BeginWith prefix (suc n) ds vs

-- and of all
abbrev pub AreAll : List ℕ → ℕ → Items → List (List ℕ) → Type 0
AreAll prefix n no_items [] = Unit {0}
AreAll prefix n no_items (v ∷ vs) = ⊥
AreAll prefix n (item d ds) [] = ⊥
AreAll prefix n (item d ds) (v ∷ vs) = IsPair prefix n d v × AreAll prefix (suc n) ds vs

-- these values are those of pairs of an answer, each under the number of the first one that wasn't known
pub record Takes (prefix : List ℕ) (pairs : Items) (before now : List (List ℕ)) : Type 0 where
  pub more : List (List ℕ)
  pub is : now ≡ before ++ more
  pub pairs_are : BeginWith prefix (length before) pairs more

-- and are those of all its pairs
pub record TakesAll (prefix : List ℕ) (pairs : Items) (before now : List (List ℕ)) : Type 0 where
  pub more : List (List ℕ)
  pub is : now ≡ before ++ more
  pub pairs_are : AreAll prefix (length before) pairs more

-- one value more is that of a pair
pub record TakesOne (prefix : List ℕ) (pair : Data) (before now : List (List ℕ)) : Type 0 where
  pub value : List ℕ
  pub is : now ≡ before ++ value ∷ []
  pub pair_is : IsPair prefix (length before) pair value
