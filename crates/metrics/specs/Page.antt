-- What a scraper is answered.
use Rattle.std.specs.Prelude.{ℕ, List, [], ◌∷◌, codes, bytes_eq, if◌then◌else◌}
use Rattle.http.specs.declared.request.Request.{Request}
use Rattle.http.specs.Request.{head_of}
use Rattle.http_uri.specs.Uri.{uri_path}
use Rattle.http1.specs.Fields.{Header}
use Rattle.http_server.specs.declared.response.Response.{Response}
use Rattle.http_server.specs.Response.{IsResponse}
use Rattle.metrics.specs.declared.page.PageKind.{PageKind}
use Rattle.metrics.specs.declared.page.PageKind.TheVariants.{Counters, NoSuchPath, NoSuchMethod}

abbrev pub page_kind : (path method : List ℕ) → PageKind
page_kind path method =
    if bytes_eq path (codes "/metrics") then (if bytes_eq method (codes "GET") then Counters else NoSuchMethod) else NoSuchPath

unfoldable pub kind_of : Request (List ℕ) → PageKind
kind_of request = page_kind (uri_path (head_of request).uri) (head_of request).method

-- the connection is closed behind the answer
abbrev pub close : Header
close = (codes "connection", codes "close")

-- the exposition format of Prometheus, version 0.0.4
abbrev pub form : Header
form = (codes "content-type", codes "text/plain; version=0.0.4")

-- which method there is (RFC 9110 section 15.5.6)
abbrev pub allowed : Header
allowed = (codes "allow", codes "GET")

abbrev pub IsPage : PageKind → (text : List ℕ) → Response → Type 0
IsPage Counters text response = IsResponse 200 (form ∷ close ∷ []) text response
IsPage NoSuchPath text response = IsResponse 404 (close ∷ []) [] response
IsPage NoSuchMethod text response = IsResponse 405 (allowed ∷ close ∷ []) [] response
