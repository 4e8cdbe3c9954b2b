-- What is answered to a request.
use Rattle.std.specs.Prelude.{◌≡◌, ◌⊎◌, ℕ, Bool, true, List, [], ◌∷◌, codes, Option, Some, None}
use Rattle.http.specs.declared.request.Request.{Request}
use Rattle.http.specs.Request.{head_of}
use Rattle.http_server.specs.declared.response.Response.{Response}
use Rattle.http_server.specs.Response.{IsResponse}
use Rattle.http_uri.specs.Uri.{uri_path}
use Rattle.http1.specs.Fields.{Header}
use Rattle.status_figures.specs.declared.figures.Figures.{Figures}
use Rattle.status_pages.specs.Hosts.{Fits, host_in}
use Rattle.status_pages.specs.Resources.{IsAt, kind_of, status_of, text_of}
use Rattle.status_pages.specs.declared.pages.Pages.{Pages}
use Rattle.status_pages.specs.declared.resource.Resource.{Resource}

abbrev pub fields : List ℕ → List Header
fields kind = (codes "content-type", kind) ∷ (codes "cache-control", codes "no-store") ∷ []

abbrev pub not_found_text : List ℕ
not_found_text = codes "not found\n"

abbrev pub not_allowed_text : List ℕ
not_allowed_text = codes "not allowed\n"

abbrev pub not_allowed_fields : List Header
not_allowed_fields = (codes "allow", codes "GET, HEAD") ∷ []

abbrev pub misdirected_text : List ℕ
misdirected_text = codes "misdirected: ask by an IP address, as localhost, by the name of the node, or by one of --status-host\n"

-- GET and HEAD, for which a resource is shown
abbrev pub Reads : List ℕ → Type 0
Reads method = (method ≡ codes "GET") ⊎ (method ≡ codes "HEAD")

-- the answer where this was found: 404 where nothing is, 405 where the method doesn't read, and else the resource
abbrev pub IsAnswerOf : Option Resource → List ℕ → Figures → Response → Type 0
IsAnswerOf None method figures response = IsResponse 404 [] not_found_text response
IsAnswerOf (Some resource) method figures response =
    (Reads method → IsResponse (status_of resource figures) (fields (kind_of resource)) (text_of resource figures) response)
    × ((Reads method → ⊥) → IsResponse 405 not_allowed_fields not_allowed_text response)

-- the answer at a path
pub record IsAnswerAt (path method : List ℕ) (figures : Figures) (response : Response) : Type 0 where
  pub found : Option Resource
  pub at : IsAt path found
  pub answer : IsAnswerOf found method figures response

-- the host of a request fits
abbrev pub IsFitting : Pages → Request (List ℕ) → Type 0
IsFitting pages request = Fits (host_in (head_of request).headers) pages.figures.now.name.bytes.items pages.names.now

-- a request is answered by its path and its method where its host fits, and else 421 (RFC 9110, 15.5.20)
pub record IsAnswered (pages : Pages) (request : Request (List ℕ)) (response : Response) (pages' : Pages) : Type 0 where
  pub fitting : IsFitting pages request → IsAnswerAt (uri_path (head_of request).uri) (head_of request).method pages.figures.now response
  pub other : (IsFitting pages request → ⊥) → IsResponse 421 [] misdirected_text response
  pub figures : pages'.figures ≡ pages.figures
  pub names : pages'.names ≡ pages.names
  pub asked : pages'.asked ≡ true
