-- Two states with the same side are seen the same: what is seen is three fields of the side.
use Rattle.std.specs.Prelude.{◌≡◌}
use Rattle.machine.specs.Machine.{State}
use Rattle.proxies.specs.Statement.{Proxy, Split, seen_of}
use Rattle.proxies.specs.Sides.{side}

module _ (split : Split) (x : Proxy) where
  pub side-seen : (s s' : State) → side split x s ≡ side split x s' → seen_of split x s ≡ seen_of split x s'
  side-seen s s' e = λ i. record { words = (e i).words; log = (e i).log; answers = (e i).answers }
