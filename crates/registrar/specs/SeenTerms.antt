-- What counts beside a contact itself, as texts.
use Rattle.std.specs.Option.{option_copied}
use Rattle.registrar.specs.declared.contact.ContactTerms.{ContactTerms}
use Rattle.registrar.specs.Contact.{Terms}

abbrev pub seen_terms : ContactTerms → Terms
seen_terms terms = record { source = terms.source; streams = terms.streams; expirations = terms.expirations; expires = option_copied terms.expires }
