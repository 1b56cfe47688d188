-- From what is decided to the plan.
use Rattle.std.proofs.Common.{◌≡◌, ℕ, zero, suc, ◌+◌, ◌-◌, ◌<◌, max, Bool, List, [], ◌∷◌, ◌++◌, refl, ap, sym, ◌∙◌, arith, append_assoc}
use Rattle.ld_table.specs.Table.{find}
use Rattle.ld_table.specs.Words.{numbers_from}
use Rattle.ld_lsn.specs.Number.{numbered}
use Rattle.ld_msg.specs.declared.msg.Entry.{Entry}
use Rattle.ld_msg.specs.declared.msg.What.TheVariants.{Bridge}
use Rattle.ld_msg.specs.Digest.{Told, Item, best, content, record_items, places_between, top_place, plan, plan_to, plan_end, plan_floor, digest_trim, digest_lng}
use Rattle.ld_plan.specs.Claims.{Decided}
use Rattle.ld_plan.specs.Decision.{IsDecision, record_items_from}

items_are : (epoch : ℕ) (loss : Bool) (d : List Told) (c : Decided) → IsDecision d c → (n k : ℕ) → record_items_from epoch loss c.entries n k ≡ record_items epoch loss d (numbers_from n k)
unfolding record_items_from
items_are epoch loss d c h n zero = refl
items_are epoch loss d c h n (suc k) =
    ap (λ w. record { number = numbered epoch n; what = w } ∷ record_items_from epoch loss c.entries (n + 1) k) (h.content loss (numbered epoch n))
    ∙ ap (λ r. record { number = numbered epoch n; what = content loss (best (numbered epoch n) d) } ∷ r) (items_are epoch loss d c h (n + 1) k)

-- one item more, and one less to make
pub one_item : (epoch : ℕ) (loss : Bool) (entries : List (ℕ × Entry)) (place end : ℕ) (items more : List Item) → place < end → more ≡ items ++ record { number = numbered epoch place; what = content loss (find (numbered epoch place) entries) } ∷ []
    → more ++ record_items_from epoch loss entries (place + 1) (end - (place + 1)) ≡ items ++ record_items_from epoch loss entries place (end - place)
unfolding record_items_from
one_item epoch loss entries place end items more lt e =
    let left : end - place ≡ suc (end - (place + 1)) = omega arith in
    let one : Item = record { number = numbered epoch place; what = content loss (find (numbered epoch place) entries) } in
    ap (λ l. l ++ record_items_from epoch loss entries (place + 1) (end - (place + 1))) e
    ∙ (append_assoc items (one ∷ []) (record_items_from epoch loss entries (place + 1) (end - (place + 1)))
    ∙ ap (λ k. items ++ record_items_from epoch loss entries place k) (sym left))

-- a plan with the parts of the definition is the definition's
pub plan_is : (epoch : ℕ) (loss : Bool) (d : List Told) (c : Decided) (t end : ℕ) (items : List Item) → IsDecision d c → t ≡ plan_floor epoch d → end ≡ suc (max c.top t) → items ≡ record_items_from epoch loss c.entries (t + 1) (end - (t + 1)) ++ record { number = numbered epoch end; what = Bridge } ∷ []
    → record { trim = digest_trim d; lng = digest_lng d; end = end; loss = loss; items = items } ≡ plan epoch loss d
unfolding plan plan_end
plan_is epoch loss d c t end items h place e i =
    let end_is : end ≡ plan_end epoch d = e ∙ (ap (λ k. suc (max k t)) h.top ∙ ap (λ k. suc (max (top_place d d) k)) place) in
    let between : end - (t + 1) ≡ end - 1 - t = omega arith in
    let items_is : items ≡ record_items epoch loss d (places_between t end) ++ record { number = numbered epoch end; what = Bridge } ∷ [] =
    i ∙ ap (λ l. l ++ record { number = numbered epoch end; what = Bridge } ∷ []) (ap (record_items_from epoch loss c.entries (t + 1)) between ∙ items_are epoch loss d c h (t + 1) (end - 1 - t)) in
    ap (λ l. record { trim = digest_trim d; lng = digest_lng d; end = end; loss = loss; items = l }) items_is
    ∙ (ap (λ k. record { trim = digest_trim d; lng = digest_lng d; end = end; loss = loss; items = record_items epoch loss d (places_between k end) ++ record { number = numbered epoch end; what = Bridge } ∷ [] }) place
    ∙ ap (plan_to epoch loss d) end_is)
