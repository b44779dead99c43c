-- The octets of a script.
use Rattle.std.proofs.Common.{◌≡◌, ◌∙◌, ap, List, [], ◌++◌, ℕ, Option, Some, option_map, take, IfSome, subst}

-- what is read of known octets up to a limit
pub script_read : (remaining : Option (List ℕ)) (limit most : ℕ) (octets old new : List ℕ) → remaining ≡ Some octets → limit ≡ most
    → IfSome (option_map (take limit) remaining) (λ front. new ≡ old ++ front) → old ≡ [] → new ≡ take most octets
script_read remaining limit most octets old new known is read empty =
    subst (λ r. IfSome (option_map (take limit) r) (λ front. new ≡ old ++ front)) known read ∙ ap (λ o. o ++ take limit octets) empty ∙ ap (λ n. take n octets) is
