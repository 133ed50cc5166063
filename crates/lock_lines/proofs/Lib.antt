pub mod MemberNames
