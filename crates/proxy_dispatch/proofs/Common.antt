-- The names that most proofs of this crate cite, passed on from one place. Declares nothing.
pub use Rattle.std.proofs.Common.{Err, List, None, Ok, Option, Result, Some, [], ap, inl, inr, refl, subst, sym, ℕ, ◌∙◌, ◌≡◌, ◌∷◌}
pub use Rattle.std.proofs.lemmas.Result.{IfOk-weaker}
pub use Rattle.proxy_dispatch.specs.Admitting.{Serving}
pub use Rattle.proxy_dispatch.specs.Looks.{Look}
pub use Rattle.proxy_dispatch.specs.Passing.{Passes}
pub use Rattle.proxy_dispatch.specs.declared.datagrams.Handled.{Handled}
pub use Rattle.proxy_dispatch.specs.declared.purpose.RequestKind.{RequestKind}
pub use Rattle.proxy_dispatch.specs.declared.purpose.RequestKind.TheVariants.{Ack, Opening}
pub use Rattle.proxy_dispatch.specs.inner.Sent.{seen_sent}
pub use Rattle.proxy_routing.specs.Admission.{IsAdmitted}
pub use Rattle.proxy_config.specs.Setup.{Setup}
pub use Rattle.call_model.specs.Built.{Datagram}
pub use Rattle.call_model.specs.Call.{Call}
pub use Rattle.sip_route.specs.RequestKey.{request_key}
pub use Rattle.sip_text.specs.Text.{MessageText}
pub use Rattle.sip_uri.specs.declared.hop.Hop.{Hop}
pub use Rattle.sip_via.specs.declared.own.Own.{Own}
pub use Rattle.sip_via.specs.declared.own.ViaFault.{ViaFault}
