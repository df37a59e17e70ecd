-- Hosts with waiting times of their own, one after the other.
use Rattle.std.proofs.Common.{◌≡◌, refl, sym, ◌∙◌, ap, ℕ, zero, suc, ◌+◌, ◌<◌, arith, List, [], ◌∷◌, ◌++◌, length, take, get_or, Option, option_map}
use Rattle.std.proofs.lemmas.List.{length-map}
use Rattle.zoom_asking.specs.declared.inquiry.AskedHost.{AskedHost}
use Rattle.zoom_tcp.specs.declared.limits.HostWaits.{HostWaits}
use Rattle.zoom_tcp.specs.declared.limits.Limits.{Limits}
use Rattle.zoom_tcp.specs.Asking.{asked_host, limits_at, hosts_of}

-- the host with these limits, if it has an address
abbrev pub host_with : {A : Type 0} → Limits → Option A → Option AskedHost
host_with limits chosen = option_map (λ address. asked_host limits) chosen

-- no address
pub no_hosts : (A : Type 0) (limits : Limits) (waits : List HostWaits) → hosts_of {A = A} limits waits [] ≡ []
no_hosts A limits [] = refl
no_hosts A limits (own ∷ waits) = refl

module _ {A : Type 0} (limits : Limits) where
  -- as many as there are addresses
  pub hosts_length : (waits : List HostWaits) (addresses : List (Option A))
      → length (hosts_of limits waits addresses) ≡ length addresses
  hosts_length [] addresses = length-map addresses _
  hosts_length (own ∷ waits) [] = refl
  hosts_length (own ∷ waits) (x ∷ xs) = ap suc (hosts_length waits xs)

  hosts_more : (waits : List HostWaits) (addresses : List (Option A)) (c : ℕ) (d : Option A)
      → c < length addresses
      → hosts_of limits waits (take (suc c) addresses)
      ≡ hosts_of limits waits (take c addresses)
      ++ host_with (limits_at limits waits c) (get_or addresses c d) ∷ []
  hosts_more waits [] c d lt = absurd (omega arith)
  hosts_more [] (x ∷ xs) zero d lt = refl
  hosts_more (own ∷ waits) (x ∷ xs) zero d lt =
      ap (λ hosts. host_with (limits_at limits (own ∷ waits) 0) x ∷ hosts) (no_hosts A limits waits)
  hosts_more [] (x ∷ xs) (suc c) d lt =
      ap (λ hosts. host_with limits x ∷ hosts) (hosts_more [] xs c d (omega arith))
  hosts_more (own ∷ waits) (x ∷ xs) (suc c) d lt =
      ap (λ hosts. host_with (limits_at limits (own ∷ waits) 0) x ∷ hosts) (hosts_more waits xs c d (omega arith))

  -- one address more
  pub one_host : (waits : List HostWaits) (addresses : List (Option A)) (c : ℕ) (chosen : Option A) (own : Limits)
      (host : Option AskedHost) (old new : List (Option AskedHost)) → c < length addresses
      → chosen ≡ get_or addresses c chosen → own ≡ limits_at limits waits c → host ≡ host_with own chosen
      → old ≡ hosts_of limits waits (take c addresses) → new ≡ old ++ host ∷ []
      → new ≡ hosts_of limits waits (take (c + 1) addresses)
  one_host waits addresses c chosen own host old new lt at of is before made =
      let first = hosts_of limits waits (take c addresses) in
      let more : c + 1 ≡ suc c = omega arith in
      made ∙ ap (λ hosts. hosts ++ host ∷ []) before ∙ ap (λ h. first ++ h ∷ []) is
      ∙ ap (λ (l : Limits). first ++ host_with l chosen ∷ []) of
      ∙ ap (λ (a : Option A). first ++ host_with (limits_at limits waits c) a ∷ []) at
      ∙ sym (hosts_more waits addresses c chosen lt)
      ∙ ap (λ (n : ℕ). hosts_of limits waits (take n addresses)) (sym more)
