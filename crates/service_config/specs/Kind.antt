-- The kinds of lines, and in which order they stand.
use Rattle.std.specs.Prelude.{ℕ, ◌&&◌, ◌||◌, ◌==◌, nat_le, nat_lt, Bool, true, false, Option, Some, None}
use Rattle.proxy_config.specs.Line as setup
use Rattle.service_config.specs.Line.{Line, SetupLine, RingLine, RealmLine, ExpiresLine, LargeLine, StrangersLine, TrustLine, GatewayLine, LocationLine, CommentLine}
use Rattle.service_config.specs.declared.kind.LineKind.{LineKind}
use Rattle.service_config.specs.declared.kind.LineKind.TheVariants as kind

abbrev pub setup_kind : setup.Line → LineKind
setup_kind (setup.OwnLine own) = kind.Own
setup_kind (setup.InstanceLine instance) = kind.Instance
setup_kind (setup.DomainLine host) = kind.Domain
setup_kind (setup.PreferLine statuses) = kind.Prefer
setup_kind (setup.DepthLine depth) = kind.Depth
setup_kind (setup.LocationLine user q uri) = kind.Location

-- none where the line says nothing
abbrev pub kind_of : Line → Option LineKind
kind_of (SetupLine line) = Some (setup_kind line)
kind_of (RingLine seconds) = Some kind.Ring
kind_of LargeLine = Some kind.Large
kind_of (RealmLine realm algorithms) = Some kind.Realm
kind_of (ExpiresLine times) = Some kind.Expires
kind_of StrangersLine = Some kind.Strangers
kind_of (TrustLine net) = Some kind.Trust
kind_of (GatewayLine q uri) = Some kind.Gateway
kind_of (LocationLine user q uri seconds) = Some kind.Location
kind_of (CommentLine text) = None

-- the place of a kind in the order
abbrev pub place_of : LineKind → ℕ
place_of kind.Own = 0
place_of kind.Instance = 1
place_of kind.Domain = 2
place_of kind.Prefer = 3
place_of kind.Depth = 4
place_of kind.Ring = 5
place_of kind.Large = 6
place_of kind.Realm = 7
place_of kind.Expires = 8
place_of kind.Strangers = 9
place_of kind.Trust = 10
place_of kind.Gateway = 11
place_of kind.Location = 12

abbrev pub may_repeat : LineKind → Bool
may_repeat kind.Trust = true
may_repeat kind.Gateway = true
may_repeat kind.Location = true
may_repeat _ = false

-- the domain or what stands behind it
abbrev pub is_from_domain : LineKind → Bool
is_from_domain kind = nat_le 2 (place_of kind)

-- behind a line of one kind may stand one of another: in the order, the same kind again where it may repeat, and the domain is
-- not left out
abbrev pub may_follow_kind : LineKind → LineKind → Bool
may_follow_kind earlier kind =
    (nat_lt (place_of earlier) (place_of kind) || (may_repeat kind && place_of earlier == place_of kind))
    && (is_from_domain earlier || nat_le (place_of kind) 2)

-- behind the last line that says something, if there is one: the first is that of the own address
abbrev pub may_follow : Option LineKind → LineKind → Bool
may_follow None kind = place_of kind == 0
may_follow (Some earlier) kind = may_follow_kind earlier kind

-- the domain was read, and so all that has to be there
abbrev pub is_whole : Option LineKind → Bool
is_whole None = false
is_whole (Some kind) = is_from_domain kind
