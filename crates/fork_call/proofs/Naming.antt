-- What the datagrams of a call that opened are made of.
use Rattle.fork_call.proofs.Common.{◌≡◌, ◌∙◌, ◌++◌, ◌∷◌, ℕ, Bool, true, false, List, [], Option, Some, None, ap, map, refl, slice_get, sym, subst, cond, MessageText, Hop, Call, Destination, Row, rows_of}
use Rattle.std.specs.Prelude.{filter, not}
use Rattle.std.specs.Option.{option_and_then, option_map}
use Rattle.std.proofs.lemmas.Bool.{cond-true}
use Rattle.std.proofs.lemmas.Option.{slice_get-map}
use Rattle.fork_model.specs.History.{opening_rows}
use Rattle.sip_lex.specs.Cut.{behind}
use Rattle.sip_text.specs.Text.{StartText, Request, Response}
use Rattle.sip_uri.specs.Uri.{Uri, is_method, params_text, request_uri, requested, user_text}
use Rattle.sip_via.specs.declared.own.Own.{Own}
use Rattle.sip_route.specs.Routes.{stripped}
use Rattle.sip_build.specs.declared.responses.OwnStatus.{OwnStatus}
use Rattle.sip_build.specs.Forwarding.{to_target}
use Rattle.sip_build.specs.declared.responses.OwnStatus.TheVariants as own_status
use Rattle.sip_build.specs.Generated.{generated_of, timestamp_lines}
use Rattle.sip_text.specs.Text.{HeaderText}
use Rattle.call_model.specs.Built.{further_lines, generated}
use Rattle.call_model.specs.OpenedRequest.{OpenedRequest, destination_by, sized_hop}
use Rattle.fork_call.specs.Destinations.{destination_of_row, destination_to}
use Rattle.fork_call.specs.Opening.{candidates_for, opened_of}
use Rattle.sip_via.specs.Edits.{with_headers}
use Rattle.proxy_routing.specs.OwnCredentials.{AreSameBut}
use Rattle.fork_call.proofs.laws.AnswersWithout.{answers_without, timestamps_without}
use Rattle.proxy_routing.specs.OwnRoutes.{without_own_routes}
use Rattle.proxy_routing.proofs.laws.OwnCredentials.{credentials, kept_without}
use Rattle.proxy_routing.proofs.laws.OwnRoutes.{kept}
use Rattle.proxy_routing.specs.Admission.{target_uri}
use Rattle.proxy_routing.specs.Targets.{CandidateTarget, targets_of}
use Rattle.fork_call.specs.Naming.{DestinationsLeadToTargets, OwnAnswersAreToTheRequest, RequestsNameTheirTargets}

filter_twice : (f : List ℕ → Bool) (xs : List (List ℕ)) → filter f (filter f xs) ≡ filter f xs
filter_twice f [] = refl
filter_twice f (x ∷ xs) = by (f x) refl (filter_twice f xs)
  where
    by : (b : Bool) → f x ≡ b → filter f (filter f xs) ≡ filter f xs → filter f (filter f (x ∷ xs)) ≡ filter f (x ∷ xs)
    by true e rest =
        let P : Bool → Type 0 = λ c.
        filter f (cond {A = List (List ℕ)} c (x ∷ filter f xs) (filter f xs)) ≡ cond {A = List (List ℕ)} c (x ∷ filter f xs) (filter f xs) in
        subst P (sym e) (cond-true _ _ _ e ∙ ap (λ (ys : List (List ℕ)). x ∷ ys) rest)
    by false e rest =
        let P : Bool → Type 0 = λ c.
        filter f (cond {A = List (List ℕ)} c (x ∷ filter f xs) (filter f xs)) ≡ cond {A = List (List ℕ)} c (x ∷ filter f xs) (filter f xs) in
        subst P (sym e) rest

uri_same : (u : Uri) → request_uri (requested u) ≡ request_uri u
uri_same u =
    ap (λ (ps : List (List ℕ)). u.scheme ++ (user_text u.user ++ (u.host ++ (behind 58 u.port ++ params_text ps))))
    (filter_twice (λ (p : List ℕ). not (is_method p)) u.params)

start_same : (start : StartText) (uri target : Uri) → uri ≡ requested target → to_target start uri ≡ to_target start target
start_same (Request method was) uri target e = ap (λ (u : Uri). Request method (request_uri u)) e ∙ ap (λ (text : List ℕ). Request method text) (uri_same target)
start_same (Response status reason) uri target e = refl

pub requests_name : RequestsNameTheirTargets
requests_name opened destination n target e = start_same opened.request.start destination.uri target e

-- the further lines of an answer are the same, where the Timestamp line is
further_same : (opened : OpenedRequest) (status : OwnStatus) (a b : MessageText) → timestamp_lines a ≡ timestamp_lines b
    → further_lines (record opened { request = a }) status ≡ further_lines (record opened { request = b }) status
further_same opened own_status.Trying a b e = ap (λ (ls : List HeaderText). cond {A = List HeaderText} opened.stamps ls []) e
further_same opened own_status.Okay a b e = refl
further_same opened own_status.BadRequest a b e = refl
further_same opened own_status.Unauthorized a b e = refl
further_same opened own_status.Forbidden a b e = refl
further_same opened own_status.NotFound a b e = refl
further_same opened own_status.ProxyAuthenticationRequired a b e = refl
further_same opened own_status.RequestTimeout a b e = refl
further_same opened own_status.UnsupportedUriScheme a b e = refl
further_same opened own_status.BadExtension a b e = refl
further_same opened own_status.IntervalTooBrief a b e = refl
further_same opened own_status.TemporarilyUnavailable a b e = refl
further_same opened own_status.CallDoesNotExist a b e = refl
further_same opened own_status.LoopDetected a b e = refl
further_same opened own_status.TooManyHops a b e = refl
further_same opened own_status.ServerInternalError a b e = refl
further_same opened own_status.ServiceUnavailable a b e = refl

pub own_answers : ((m : MessageText) (own : Own) (status : OwnStatus) (further : List HeaderText) → generated_of (stripped m own) status further ≡ generated_of m status further)
    → ((m : MessageText) (own : Own) → timestamp_lines (stripped m own) ≡ timestamp_lines m) → OwnAnswersAreToTheRequest
own_answers law times setup number m source call status opens =
    let pending_call = opens.1.prepared in
    let begins = opens.2.3.begins in
    let with : MessageText → MessageText = λ r. generated (record call.opened { request = r }) status in
    let step : (x : MessageText) (own : Own) → with (stripped x own) ≡ with x =
    λ x own. law x own status (further_lines (record call.opened { request = stripped x own }) status)
    ∙ ap (λ (ls : List HeaderText). generated_of x status ls) (further_same call.opened status (stripped x own) x (times x own)) in
    let without : (x : MessageText) (lines : List HeaderText) → AreSameBut credentials lines x.headers → with (with_headers x lines) ≡ with x =
    λ x lines same. answers_without x lines status (further_lines (record call.opened { request = with_headers x lines }) status) same
    ∙ ap (λ (ls : List HeaderText). generated_of x status ls) (further_same call.opened status (with_headers x lines) x (timestamps_without x lines same)) in
    let prepared : call.opened.request ≡ _ = ap (λ (x : Call). x.opened.request) begins.2 in (
      pending_call.0,
      pending_call.1,
      ap with prepared
          ∙ kept_without with without setup.realm (without_own_routes setup pending_call.0) opens.0 pending_call.2
          ∙ kept with step setup pending_call.0,
    )

-- ---- the targets that a call began with

-- the element that a map made of one
mapped_of : {X Y : Type 0} → (f : X → Option Y) (xs : List X) (n : ℕ) (y : Y) (o : Option X) → slice_get xs n ≡ o → option_map f o ≡ Some (Some y)
    → (x : X) × (slice_get xs n ≡ Some x) × (f x ≡ Some y)
mapped_of f xs n y None at h = absurd cc
mapped_of f xs n y (Some x) at h = (x, at, let k : Some (f x) ≡ Some (Some y) = h in cc)

mapped_from : {X Y : Type 0} → (f : X → Option Y) (xs : List X) (n : ℕ) (y : Y) → slice_get (map f xs) n ≡ Some (Some y)
    → (x : X) × (slice_get xs n ≡ Some x) × (f x ≡ Some y)
mapped_from f xs n y e = mapped_of f xs n y (slice_get xs n) refl (sym (slice_get-map f xs n) ∙ e)

-- the place that a chain of two options came by
chained_from : {X Y : Type 0} → (f : X → Option Y) (o : Option X) (y : Y) → option_and_then f o ≡ Some y → (x : X) × (o ≡ Some x) × (f x ≡ Some y)
chained_from f None y e = absurd cc
chained_from f (Some x) y e = (x, refl, e)

record GoesBy (large : Bool) (target : CandidateTarget) (destination : Destination) : Type 0 where
  pub uri : destination.uri ≡ requested target.uri
  pub hop : option_map (sized_hop large) target.hop ≡ Some destination.hop
  pub longest : destination.longest ≡ target.longest

goes_by : (large : Bool) (target : CandidateTarget) (destination : Destination) → destination_to large target ≡ Some destination → GoesBy large target destination
goes_by large target destination e = of (option_map (sized_hop large) target.hop) refl e
  where
    of : (o : Option Hop) → option_map (sized_hop large) target.hop ≡ o → destination_by (requested target.uri) o target.longest ≡ Some destination → GoesBy large target destination
    of None at h = absurd cc
    of (Some hop) at h =
        let made : Destination = record { uri = requested target.uri; hop = hop; longest = target.longest } in
        let k : Some made ≡ Some destination = h in
        let same : made ≡ destination = cc in
        record {
          uri = sym (ap (λ (x : Destination). x.uri) same);
          hop = at ∙ ap (λ (x : Destination). Some x.hop) same;
          longest = sym (ap (λ (x : Destination). x.longest) same);
        }

pub destinations_lead : DestinationsLeadToTargets
destinations_lead setup number m source call n destination opens at =
    let request = opens.0 in
    let asks = opens.2 in
    let uri = asks.1 in
    let reaches = asks.3 in
    let begins = reaches.begins in
    let cs = candidates_for setup request uri in
    let of_call : call ≡ _ = begins.2 in
    let request_is : call.opened.request ≡ request = ap (λ (x : Call). x.opened.request) of_call in
    let fixed = opened_of setup number request source uri in
    let rows : List Row = opening_rows (targets_of cs) in
    let rows_are : rows_of call ≡ rows = ap rows_of of_call in
    let there : slice_get (map Some begins.0) n ≡ Some (Some destination) =
    slice_get-map Some begins.0 n ∙ ap (option_map Some) (sym (ap (λ (x : Call). slice_get x.destinations n) of_call) ∙ at) in
    let row = mapped_from (destination_of_row fixed.large cs) rows n destination (sym (ap (λ (ds : List (Option Destination)). slice_get ds n) begins.1) ∙ there) in
    let target = chained_from (destination_to fixed.large) (slice_get cs row.0.place) destination row.2 in
    let by = goes_by fixed.large target.0 destination target.2 in
    record {
      target = target.0;
      of_row = record {
        uri = uri;
        uri_is = ap target_uri request_is ∙ asks.2;
        row = row.0;
        row_is = ap (λ (rs : List Row). slice_get rs n) rows_are ∙ row.1;
        target_is = ap (λ (x : MessageText). slice_get (candidates_for setup x uri) row.0.place) request_is ∙ target.1;
      };
      uri = by.uri;
      hop = ap (λ (x : Call). option_map (sized_hop x.opened.large) target.0.hop) of_call ∙ by.hop;
      longest = by.longest;
      names = requests_name call.opened destination n target.0.uri by.uri;
    }
