-- A call is pumped until nothing is due, and what it sends is handed to a port.
use Rattle.std.specs.Prelude.{◌≡◌, ◌≤◌, ◌<◌, ◌⊎◌, ◌&&◌, ℕ, suc, List, [], ◌∷◌, length, Bool, true, false, not, nat_lt}
use Rattle.call_model.specs.Call.{Call}
use Rattle.call_model.specs.Built.{Datagram}
use Rattle.call_model.specs.Due.{IsIdle}
use Rattle.call_model.specs.Pump.{Send, Did, Pumps}
use Rattle.call_model.specs.Failed.{Fails}
use Rattle.call_laws.specs.Sending as sending

-- at most so many steps are made at a time
abbrev pub most_steps : ℕ
most_steps = 1024

-- a datagram that counts as sent; one whose failure the call was told; a step without a datagram
pub data Carrying : Type 0 where
  Sent : Datagram → Carrying
  Lost : Datagram → Carrying
  Silent : Carrying

-- each datagram is what its cause says and goes where that says, of the call as it is then
abbrev pub Carries : ℕ → Call → Carrying → Call → Type 0
Carries now call (Sent d) new = Pumps call now (Send d) new × sending.Sends call (Send d)
Carries now call (Lost d) new = (mid : Call) × Pumps call now (Send d) mid × sending.Sends call (Send d) × Fails mid now d.cause new
Carries now call Silent new = Pumps call now Did new

abbrev pub CarriesAll : ℕ → Call → List Carrying → Call → Type 0
CarriesAll now call [] new = new ≡ call
CarriesAll now call (step ∷ steps) new = (mid : Call) × Carries now call step mid × CarriesAll now mid steps new

abbrev pub sent_in : List Carrying → ℕ
sent_in [] = 0
sent_in (Sent d ∷ steps) = suc (sent_in steps)
sent_in (Lost d ∷ steps) = sent_in steps
sent_in (Silent ∷ steps) = sent_in steps

abbrev pub lost_in : List Carrying → ℕ
lost_in [] = 0
lost_in (Sent d ∷ steps) = lost_in steps
lost_in (Lost d ∷ steps) = suc (lost_in steps)
lost_in (Silent ∷ steps) = lost_in steps

-- ---- what the port is handed

-- each send of a port: the port before, the datagram, whether it went out, the port after
abbrev pub Sends : Type 0 → Type 1
Sends P = P → Datagram → Bool → P → Type 0

module _ {P : Type 0} (sends : Sends P) (count : P → ℕ) where
  -- the port is handed a datagram by one send: it is lost where the port says that it did not go out, and has counted it
  abbrev pub SendsOne : P → Datagram → (lost : Bool) → P → Type 0
  SendsOne port d lost new = (went : Bool) × sends port d went new × (lost ≡ (not went && nat_lt (count port) (count new)))

  -- it is handed the datagram of the step, if it has one; nothing else is done with it
  abbrev pub Hands : P → Carrying → P → Type 0
  Hands port (Sent d) new = SendsOne port d false new
  Hands port (Lost d) new = SendsOne port d true new
  Hands port Silent new = new ≡ port

  abbrev pub HandsAll : P → List Carrying → P → Type 0
  HandsAll port [] new = new ≡ port
  HandsAll port (step ∷ steps) new = (mid : P) × Hands port step mid × HandsAll mid steps new

-- ---- a call and its port

module _ {P : Type 0} (sends : Sends P) (count : P → ℕ) (now : ℕ) (call : Call) (port : P) where
  -- some steps were made, and then the allocator refused: before the next one, which was due, or as the call was to be told of a
  -- datagram that was lost
  abbrev pub IsCutOff : Call → P → Type 0
  IsCutOff new new_port =
      (steps : List Carrying)
      × (mid : Call)
      × (mid_port : P)
      × (length steps < most_steps)
      × CarriesAll now call steps mid
      × HandsAll sends count port steps mid_port
      × (((new ≡ mid) × (new_port ≡ mid_port) × (IsIdle mid now → ⊥))
      ⊎ ((d : Datagram) × Pumps mid now (Send d) new × sending.Sends mid (Send d) × SendsOne sends count mid_port d true new_port))

  -- so many were sent, and so many lost, each handed to the port once, in the order of the steps; nothing is due any more, or
  -- the run is as long as may be
  pub record IsCarriedOut (new : Call) (new_port : P) (sent failed : ℕ) (more : Bool) : Type 0 where
    pub steps : List Carrying
    pub run : CarriesAll now call steps new
    pub handed : HandsAll sends count port steps new_port
    pub few : length steps ≤ most_steps
    pub sent_are : sent ≡ sent_in steps
    pub failed_are : failed ≡ lost_in steps
    pub done : more ≡ false → IsIdle new now
    pub not_done : more ≡ true → (length steps ≡ most_steps) × (IsIdle new now → ⊥)

  -- the same before it was asked whether something is still due: idle, or as long as may be
  pub record IsRunOut (new : Call) (new_port : P) (sent failed : ℕ) (idle : Bool) : Type 0 where
    pub steps : List Carrying
    pub run : CarriesAll now call steps new
    pub handed : HandsAll sends count port steps new_port
    pub few : length steps ≤ most_steps
    pub sent_are : sent ≡ sent_in steps
    pub failed_are : failed ≡ lost_in steps
    pub done : idle ≡ true → IsIdle new now
    pub long : idle ≡ false → length steps ≡ most_steps

  -- so far: so many steps were made
  pub record IsSoFar (new : Call) (new_port : P) (made sent failed : ℕ) : Type 0 where
    pub steps : List Carrying
    pub run : CarriesAll now call steps new
    pub handed : HandsAll sends count port steps new_port
    pub made_is : length steps ≡ made
    pub sent_are : sent ≡ sent_in steps
    pub failed_are : failed ≡ lost_in steps
