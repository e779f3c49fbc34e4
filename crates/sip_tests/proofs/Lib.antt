pub mod RouteLines
